use Rattle.ts_thread.specs.Goings.{left_in_all}
use Rattle.ts_thread.proofs.Rows.{IsDriving}
use Rattle.ts_thread.proofs.end.drive.Given as goal

abbrev pub invariant-events : goal.invariant-events
invariant-events g l = IsDriving g.W.Slotted.fits g.W.World.sound g.W.World.only_asked g.W.World.is_first
    g.W.World.left l.limit l.initial.before l.before l.initial.group l.group l.initial.after l.after

abbrev pub decreases-events : goal.decreases-events
decreases-events g l = left_in_all g.W.World.left l.group
