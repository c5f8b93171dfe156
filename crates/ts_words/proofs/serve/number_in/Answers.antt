use Rattle.clap.specs.Lexer.{without_minus}
use Rattle.clap.specs.Matches.{found_of}
use Rattle.ts_words.proofs.Asked.{number_is}
use Rattle.ts_words.proofs.serve.number_in.Goals as goal

pub returns-clause-value : goal.returns-clause-value
returns-clause-value c =
    let holds = c.requires.2 in
    let read = c.in-Some.ensures.value (without_minus holds.given) holds.read in
    number_is (found_of c.args.matches.now) c.args.name.now (without_minus holds.given) c.in-Some.number holds.read read.0.1
