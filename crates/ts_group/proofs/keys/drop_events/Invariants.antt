-- So far the first events of the key were dropped.
use Rattle.std.proofs.Common.{length}
use Rattle.ts_group.proofs.Drops.{Dropping}
use Rattle.ts_group.proofs.keys.drop_events.Given as goal

abbrev pub invariant-loop-number : goal.invariant-loop-number
invariant-loop-number l = Dropping l.fn.journal l.journal l.key

abbrev pub decreases-loop-number : goal.decreases-loop-number
decreases-loop-number l = length l.journal.state.pending
