-- std's test of the end of a slice.
use Rattle.std.proofs.lemmas.Bool.Decides.{Decides-eqb}
use Rattle.std.proofs.lemmas.Slice.Eq.{ends_is}
use Rattle.ts_tap.proofs.sent_reader.is_ended_by.Goals as goal

pub returns-clause-yes : goal.returns-clause-yes
returns-clause-yes c =
    let tests =
    ends_is Decides-eqb c.args.bytes.now c.args.end.now c.ends_with.result c.ends_with.ensures.value in
    λ yes. (_, tests.0 yes)

pub returns-clause-no : goal.returns-clause-no
returns-clause-no c =
    let tests =
    ends_is Decides-eqb c.args.bytes.now c.args.end.now c.ends_with.result c.ends_with.ensures.value in
    λ (front, is). tests.1 front is
