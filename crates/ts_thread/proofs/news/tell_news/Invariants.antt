use Rattle.std.proofs.Common.{◌-◌}
use Rattle.ts_thread.specs.Desks.{IsDeskOf}
use Rattle.ts_thread.proofs.Telling.{IsTelling}
use Rattle.ts_thread.proofs.news.tell_news.Given as goal

abbrev pub invariant-news : goal.invariant-news
invariant-news g l = IsDeskOf l.shared.slots.now l.shared.queue.now l.desk × IsTelling l.hands_over l.k l.moment l.initial.group l.group
    l.initial.desk l.desk

abbrev pub decreases-news : goal.decreases-news
decreases-news g l = l.group.cx.log.state.next - l.group.cx.news_from
