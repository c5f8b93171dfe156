-- So far no event is late.
use Rattle.std.proofs.Common.{◌≡◌, drop}
use Rattle.ts_group.specs.Late.{late_in}
use Rattle.ts_group.proofs.hasten.late_event.Given as goal

abbrev pub invariant-loop-event : goal.invariant-loop-event
invariant-loop-event l = late_in l.key l.moment (drop l.event-index l.pending) ≡ late_in l.key l.moment
    l.pending
