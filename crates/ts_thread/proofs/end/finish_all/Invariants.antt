use Rattle.ts_thread.proofs.Rows.{IsFinishing}
use Rattle.ts_thread.proofs.end.finish_all.Given as goal

abbrev pub invariant-groups : goal.invariant-groups
invariant-groups g l = IsFinishing g.W.Slotted.fits g.W.World.sound g.W.World.only_asked g.W.World.is_first
    g.W.World.left l.limit l.initial.groups l.groups l.place
