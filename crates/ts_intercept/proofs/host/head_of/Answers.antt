-- The head ends with the first empty line.
use Rattle.std.proofs.Common.{sym, subst}
use Rattle.ts_intercept.specs.Deciding.{HasHead}
use Rattle.ts_intercept.proofs.Heads.{head_found, lacks_blank}
use Rattle.ts_intercept.proofs.host.head_of.Goals as goal

pub returns-in-Some : goal.returns-in-Some
returns-in-Some c =
    subst (HasHead c.args.text.now) (sym c.split_at.ensures.front)
    (head_found c.args.text.now c.in-Some.place c.in-Some.ensures)

pub returns-in-None : goal.returns-in-None
returns-in-None c = lacks_blank c.args.text.now c.in-None.ensures
