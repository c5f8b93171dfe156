use Rattle.ts_transform.proofs.Kept.{adds_none}
use Rattle.ts_transform.proofs.handler.tell_ended.Goals as goal

pub returns-then-not-is_there-clause-adds : goal.returns-then-not-is_there-clause-adds
returns-then-not-is_there-clause-adds c = adds_none c.args.cx.now 1 c.requires.turn
