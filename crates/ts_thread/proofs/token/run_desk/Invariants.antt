use Rattle.std.proofs.Common.{◌*◌, ◌-◌, ◌≤◌}
use Rattle.ts_slot.specs.Words.{tags_of}
use Rattle.ts_thread.specs.Desks.{IsDeskOf, CountsMore, KeepsDesk}
use Rattle.ts_thread.specs.Runs.{Turns}
use Rattle.ts_thread.proofs.token.run_desk.Given as goal

abbrev pub invariant-turns : goal.invariant-turns
invariant-turns g l =
    IsDeskOf l.shared.slots.now l.shared.queue.now l.desk × KeepsDesk l.initial.desk l.desk (2 * l.made) × (l.made ≤ l.budget)
    × Turns g.W.Slotted.fits g.W.World.asking g.W.World.answers g.W.World.called g.W.World.heard
    g.W.World.left (tags_of l.shared.slots.now) l.made l.initial.desk l.desk l.moment
    × CountsMore l.made l.initial.desk l.desk

abbrev pub decreases-turns : goal.decreases-turns
decreases-turns g l = l.budget - l.made
