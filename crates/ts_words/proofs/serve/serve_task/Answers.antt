use Rattle.std.proofs.Common.{◌≡◌, ◌∙◌, ap, inl, inr, refl, true}
use Rattle.clap.specs.Faults.{is_simple_and_free}
use Rattle.clap.specs.Matches.{found_of}
use Rattle.clap.specs.Simple.{app_of, is_simple}
use Rattle.clap.specs.Walk.{rows_of}
use Rattle.ts_words.specs.Serve.{serve_app}
use Rattle.ts_words.proofs.Asked.{asked_nothing, asked_there}
use Rattle.ts_words.proofs.Command.{found_whole}
use Rattle.ts_words.proofs.serve.serve_task.Goals as goal

free : is_simple_and_free serve_app ≡ true
free = refl

simple : is_simple serve_app ≡ true
simple = refl

pub task_of-requires : goal.task_of-requires
task_of-requires c = found_whole c.in_ok-command.command c.in-Ok.matches c.in_ok-command.ensures c.in-Ok.ensures.parsed

pub returns-in-Ok-clause-asked : goal.returns-in-Ok-clause-asked
returns-in-Ok-clause-asked c =
    let shape = c.in_ok-command.ensures in
    asked_there (app_of c.in_ok-command.command) _ _ (rows_of (found_of c.in-Ok.matches)) shape
    (c.in-Ok.ensures.kinds (ap is_simple_and_free shape ∙ free)) (c.in-Ok.ensures.matches (ap is_simple shape ∙ simple)).0
    c.task_of.ensures.words

pub returns : goal.returns
returns c =
    let shape = c.in_ok-command.ensures in
    elim (c.in-Err.ensures.kinds (ap is_simple_and_free shape ∙ free)) [
      | inl memory ↦ absurd (c.in_default.not-OutOfMemory (c.kind.ensures ∙ memory))
      | inr among ↦ record { asked = asked_nothing (app_of c.in_ok-command.command) _ _ shape among; range = tt }
    ]
