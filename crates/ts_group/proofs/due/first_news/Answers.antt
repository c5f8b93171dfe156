-- What the scan has found, or that it found nothing.
use Rattle.std.proofs.Common.{◌≡◌, Some, None, [], ap, sym, ◌∙◌, arith, drop}
use Rattle.std.proofs.lemmas.List.{drop_all}
use Rattle.ts_group.proofs.First.{first_from, news_if, from_here}
use Rattle.ts_group.proofs.due.first_news.Goals as goal

pub returns-clause-none : goal.returns-clause-none
returns-clause-none c =
    let items = c.pending-event-items.result.now in
    let all : drop c.loop-event.event-index items ≡ [] = drop_all c.loop-event.event-index items (omega arith)
    in
    let is : None ≡ first_from c.args.from c.args.journal.now.state.pending = ap (first_from c.args.from)
    (sym all) ∙ c.loop-event.invariant ∙ ap (first_from c.args.from) c.pending-event-items.ensures in
    (news_if c.args.journal.now.state c.args.from None c.known.ensures.valid is).0

pub returns-then-event-from-clause-news : goal.returns-then-event-from-clause-news
returns-then-event-from-clause-news c =
    let items = c.pending-event-items.result.now in
    let e = from_here c.args.from items c.loop-event.event-index _ c.loop-event-test.true c.if-event-from.true
    in
    let is = sym e ∙ c.loop-event.invariant ∙ ap (first_from c.args.from) c.pending-event-items.ensures in
    (news_if c.args.journal.now.state c.args.from (Some _) c.known.ensures.valid is).1.0

pub returns-then-event-from-clause-below : goal.returns-then-event-from-clause-below
returns-then-event-from-clause-below c =
    let items = c.pending-event-items.result.now in
    let e = from_here c.args.from items c.loop-event.event-index _ c.loop-event-test.true c.if-event-from.true
    in
    let is = sym e ∙ c.loop-event.invariant ∙ ap (first_from c.args.from) c.pending-event-items.ensures in
    (news_if c.args.journal.now.state c.args.from (Some _) c.known.ensures.valid is).1.1
