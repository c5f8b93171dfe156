-- What became of the events that were set.
use Rattle.std.specs.Prelude.{length}
use Rattle.ts_journal.specs.declared.entry.Counts.{Counts}
use Rattle.ts_journal.specs.State.{State}

-- the counts that a state shows
abbrev pub counts_of : State → Counts
counts_of s = record {
  set = s.set_count;
  handled = s.handled_count;
  cancelled = s.cancelled_count;
  dropped = s.dropped_count;
  pending = length s.pending;
}
