use Rattle.std.proofs.Common.{ap, arith}
use Rattle.ts_journal.specs.State.{State}
use Rattle.ts_thread.proofs.Telling.{desk_place, keeps_same, telling_goes_on, telling_less}
use Rattle.ts_thread.proofs.news.tell_news.Goals as goal

pub news-smaller : goal.news-smaller
news-smaller g c =
    let less = telling_less c.args.hands_over c.args.k c.args.moment c.args.group.now c.news.group c.args.desk.now
    c.news.desk c.in-Some.number c.in-Some.due c.news.invariant.1 c.in-Some.ensures.news in
    let from = c.in-Some.ensures.once in
    let next = ap (λ (s : State). s.next) c.in-Some.ensures.same.log.state in
    let low = less.0 in
    let below = less.1 in omega arith

pub returns-in_err-place-clause-places : goal.returns-in_err-place-clause-places
returns-in_err-place-clause-places g c = keeps_same c.args.desk.now c.news.desk c.place.new.desk
    c.news.invariant.1.keeps c.in_err-place.ensures.err

pub news-preserved : goal.news-preserved
news-preserved g c =
    let put = c.in_ok-place.ensures in
    let news = c.in-Some.ensures in (
      desk_place c.args.shared.now.slots.now c.args.shared.now.queue.now c.news.desk c.place.new.desk
          (record { group = c.args.k; number = c.in-Some.number }) c.in-Some.due c.args.moment
          c.news.invariant.0 c.requires.group put.pass put.seat put.ok,
      telling_goes_on c.args.hands_over c.args.k c.args.moment c.args.group.now c.news.group c.next_news.new.self
          c.args.desk.now c.news.desk c.place.new.desk c.in-Some.number c.in-Some.due c.news.invariant.1
          news.news news.once news.same news.world put.seat put.empties put.ok,
    )
