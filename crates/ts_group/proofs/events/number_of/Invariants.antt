-- So far no event is of the series.
use Rattle.std.proofs.Common.{◌≡◌, drop}
use Rattle.ts_journal.specs.State.{first_in_series}
use Rattle.ts_group.proofs.events.number_of.Given as goal

abbrev pub invariant-loop-event : goal.invariant-loop-event
invariant-loop-event l = first_in_series l.series (drop l.event-index l.pending) ≡ first_in_series l.series
    l.pending
