-- A block that is fed is a step.
use Rattle.std.proofs.Common.{Some, sym, subst}
use Rattle.ts_request.specs.Carried.{UploadsStep}
use Rattle.ts_request.specs.declared.passage.Next.TheVariants as N
use Rattle.ts_request.proofs.Bodies.{open_stalls}
use Rattle.ts_request.proofs.BodySteps.{feed_by, next_is}
use Rattle.ts_request.proofs.uploading.feed_step.Goals as goal

pub returns : goal.returns
returns g c f pair =
    let old = c.args.carrier.now in
    let p = c.in-Some.passage in
    let next = next_is old.passage old.inbox N.Feed p c.requires.next c.in-Some.is in
    subst (λ a. UploadsStep g.C.Link g.O.Link g.O.Upstream g.P.Transform a f f old
    (record old { inbox = c.feed.new.inbox; passage = Some c.feed.new.self })) (sym c.answer_work.ensures)
    (feed_by g.C.Link g.O.Link g.O.Upstream g.P.Transform
    (λ l. g.met.C.Link.goes_still l l (g.met.C.Link.stays l))
    (λ l. g.met.O.Link.goes_still l l (g.met.O.Link.stays l)) f
    old p c.feed.new.self pair c.in-Some.is c.requires.asked next.0 c.feed.new.inbox c.feed.result next.1
    next.2 c.feed.ensures.ok c.feed.ensures.err)

pub feed-requires-clause-goes_on : goal.feed-requires-clause-goes_on
feed-requires-clause-goes_on g c =
    open_stalls c.in-Some.passage
    (next_is c.args.carrier.now.passage c.args.carrier.now.inbox N.Feed c.in-Some.passage c.requires.next
    c.in-Some.is).1
