use Rattle.std.proofs.Common.{arith, codes}
use Rattle.clap.specs.Matches.{found_of}
use Rattle.clap.specs.Walk.{rows_of}
use Rattle.ts_thread.specs.declared.TheConstants.{MOST_THREADS}
use Rattle.ts_words.specs.Serve.{most_connections, words_in}
use Rattle.ts_words.proofs.Asked.{same_words, text_is}
use Rattle.ts_words.proofs.serve.task_of.Goals as goal

pub returns-clause-words : goal.returns-clause-words
returns-clause-words c =
    let f = found_of c.args.matches.now in
    same_words _ (words_in (rows_of f)) (text_is f (codes "listen") _ c.text_in.ensures) (text_is f (codes "origin") _ c.text_in-2.ensures)
    (text_is f (codes "config") _ c.text_in-3.ensures) c.number_in.ensures.value c.number_in-2.ensures.value
    c.flag_in.ensures

pub returns-clause-range : goal.returns-clause-range
returns-clause-range c =
    let threads = c.number_in.ensures.range MOST_THREADS (omega arith) c.requires.threads in
    let connections = c.number_in-2.ensures.range most_connections (omega arith) c.requires.connections in
    record { some_threads = threads.0; few_threads = threads.1; some_connections = connections.0; few_connections = connections.1 }
