-- So far no event has the number.
use Rattle.std.proofs.Common.{◌≡◌, drop}
use Rattle.ts_journal.specs.State.{pending_at}
use Rattle.ts_journal.proofs.tables.event_at.Given as goal

abbrev pub invariant-loop-event : goal.invariant-loop-event
invariant-loop-event l = pending_at l.number (drop l.event-index l.pending) ≡ pending_at l.number l.pending
