-- Round after round, all groups fit the tags that they fitted.
use Rattle.std.specs.Prelude.{◌≡◌, length}
use Rattle.ts_serve.specs.Leftover.{AreMadeAlike, ServerStaysFit}
use Rattle.ts_serve.proofs.leftover.finish_left.Given as goal

abbrev pub invariant-rounds : goal.invariant-rounds
invariant-rounds g l =
    ServerStaysFit g.W.Slotted.fits g.W.Tenant.keeps g.W.World.sound g.P.Slotted.fits g.P.World.sound
    g.P.World.only_asked g.P.World.is_first l.initial.groups l.groups
    × AreMadeAlike l.initial.groups l.groups
    × (length l.groups ≡ length l.initial.groups)
