-- So far no event is of the key.
use Rattle.std.proofs.Common.{◌≡◌, drop}
use Rattle.ts_journal.specs.State.{numbers_of}
use Rattle.ts_group.proofs.keys.first_number.Given as goal

abbrev pub invariant-loop-event : goal.invariant-loop-event
invariant-loop-event l = numbers_of l.key (drop l.event-index l.pending) ≡ numbers_of l.key l.pending
