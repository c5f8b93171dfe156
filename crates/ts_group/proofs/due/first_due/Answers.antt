-- What the scan of all pending events has found.
use Rattle.std.proofs.Common.{◌≡◌, None, [], ap, sym, ◌∙◌, arith, drop}
use Rattle.std.proofs.lemmas.List.{drop_all}
use Rattle.ts_group.proofs.First.{soonest, first_if}
use Rattle.ts_group.proofs.due.first_due.Goals as goal

pub returns-clause-none : goal.returns-clause-none
returns-clause-none c =
    let items = c.pending-event-items.result.now in
    let all : drop c.loop-event.event-index items ≡ [] = drop_all c.loop-event.event-index items (omega arith)
    in
    let is : c.loop-event.first ≡ soonest None c.args.journal.now.state.pending = ap
    (soonest c.loop-event.first) (sym all) ∙ c.loop-event.invariant ∙ ap (soonest None)
    c.pending-event-items.ensures in
    (first_if c.args.journal.now.state c.loop-event.first c.known.ensures.valid is).0

pub returns-clause-first : goal.returns-clause-first
returns-clause-first c =
    let items = c.pending-event-items.result.now in
    let all : drop c.loop-event.event-index items ≡ [] = drop_all c.loop-event.event-index items (omega arith)
    in
    let is : c.loop-event.first ≡ soonest None c.args.journal.now.state.pending = ap
    (soonest c.loop-event.first) (sym all) ∙ c.loop-event.invariant ∙ ap (soonest None)
    c.pending-event-items.ensures in
    (first_if c.args.journal.now.state c.loop-event.first c.known.ensures.valid is).1
