-- So far no event is news.
use Rattle.std.proofs.Common.{◌≡◌, drop}
use Rattle.ts_group.proofs.First.{first_from}
use Rattle.ts_group.proofs.due.first_news.Given as goal

abbrev pub invariant-loop-event : goal.invariant-loop-event
invariant-loop-event l = first_from l.from (drop l.event-index l.event-items) ≡ first_from l.from
    l.event-items
