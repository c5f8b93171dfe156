use Rattle.ts_transform.proofs.Kept.{adds_none}
use Rattle.ts_transform.proofs.handler.rouse_before.Goals as goal

pub returns-then-at-eq0-clause-adds : goal.returns-then-at-eq0-clause-adds
returns-then-at-eq0-clause-adds g c = adds_none c.args.cx.now 1 c.requires.turn
