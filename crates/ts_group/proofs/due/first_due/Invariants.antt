-- So far this event is due first.
use Rattle.std.proofs.Common.{◌≡◌, None, drop}
use Rattle.ts_group.proofs.First.{soonest}
use Rattle.ts_group.proofs.due.first_due.Given as goal

abbrev pub invariant-loop-event : goal.invariant-loop-event
invariant-loop-event l = soonest l.first (drop l.event-index l.event-items) ≡ soonest None l.event-items
