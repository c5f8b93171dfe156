-- One of the two begins with the other.
use Rattle.std.proofs.Common.{◌∙◌}
use Rattle.std.proofs.lemmas.Bool.Decides.{Decides-eqb}
use Rattle.std.proofs.lemmas.Slice.Eq.{starts_is}
use Rattle.ts_session.proofs.Agreeing.{agrees_tests}
use Rattle.ts_session.proofs.lines.goes_with.Goals as goal

pub returns : goal.returns
returns c =
    let text = c.args.text.now in
    let list = c.args.bytes.now in
    let more = starts_is Decides-eqb list text c.starts_with.result c.starts_with.ensures.value in
    let front = starts_is Decides-eqb text list c.starts_with-2.result c.starts_with-2.ensures.value in
    c.is_either.ensures
    ∙ agrees_tests text list c.starts_with.result c.starts_with-2.result more.0 more.1 front.0 front.1
