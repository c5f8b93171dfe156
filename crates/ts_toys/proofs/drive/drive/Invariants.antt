-- What is left to do, as the world tells it, falls with each event, and the count of those that were handled
-- does not fall.
use Rattle.std.proofs.Common.{◌≡◌, ◌≤◌, false}
use Rattle.std.specs.Prelude.{IsSome, unwrap_or}
use Rattle.ts_group.specs.Answers.{KeepsTags}
use Rattle.ts_toys.proofs.drive.drive.Given as goal

abbrev pub invariant-driving : goal.invariant-driving
invariant-driving g l = record {
  idle : l.group.cx.log.state.held ≡ false;
  sound : g.W.World.sound l.group.world l.group.cx.log.state l.group.cx.roles;
  tells : IsSome (g.W.World.left l.group.world l.group.cx.log.state);
  handled : l.fn.group.cx.log.state.handled_count ≤ l.group.cx.log.state.handled_count;
  tags : KeepsTags g.W.Slotted.fits l.fn.group.world l.group.world;
}

abbrev pub decreases-driving : goal.decreases-driving
decreases-driving g l = unwrap_or (g.W.World.left l.group.world l.group.cx.log.state) 0
