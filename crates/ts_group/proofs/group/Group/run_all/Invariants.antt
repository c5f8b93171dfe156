-- So far the first event and direct calls that its handlers asked for were handled, and this event is the
-- next.
use Rattle.std.proofs.Common.{◌*◌, ◌+◌, ◌-◌, ◌<◌}
use Rattle.ts_group.specs.declared.group.TheConstants.{MOST_EVENTS}
use Rattle.ts_group.specs.declared.world.TheConstants.{MOST_SET}
use Rattle.ts_group.specs.Answers.{Holds, LeavesLess, KeepsPromises, SetsAtMost}
use Rattle.ts_group.proofs.Runs.{InRun}
use Rattle.ts_group.proofs.group.Group.run_all.Given as goal

abbrev pub invariant-runs : goal.invariant-runs
invariant-runs g l = record {
  run : InRun g.W.World.called l.fn.self l.self l.moment l.fn.first.number l.events l.event;
  few : l.events < MOST_EVENTS;
  sound : Holds g.W.World.sound l.self;
  falls : LeavesLess g.W.World.left l.fn.self l.events l.self;
  promises : KeepsPromises g.W.Slotted.fits g.W.World.right g.W.World.may_ask l.fn.self.world l.self.world;
  sets : SetsAtMost g.W.Slotted.fits l.fn.self.world (l.events * (MOST_SET + 1)) l.fn.self.cx l.self.cx;
}

abbrev pub decreases-runs : goal.decreases-runs
decreases-runs g l = MOST_EVENTS - l.events
