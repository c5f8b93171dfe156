-- A stage that works is a step.
use Rattle.std.proofs.Common.{Some, sym, subst}
use Rattle.ts_request.specs.Carried.{UploadsStep}
use Rattle.ts_request.specs.declared.passage.Next.TheVariants as N
use Rattle.ts_request.proofs.BodySteps.{work_by, next_is}
use Rattle.ts_request.proofs.uploading.work_step.Goals as goal

pub returns : goal.returns
returns g c f pair =
    let old = c.args.carrier.now in
    let p = c.in-Some.passage in
    let next = next_is old.passage old.inbox (N.Work c.args.at) p c.requires.next c.in-Some.is in
    subst (λ a. UploadsStep g.C.Link g.O.Link g.O.Upstream g.P.Transform a f f old
    (record old { passage = Some c.work.new.self })) (sym c.answer_work.ensures)
    (work_by g.C.Link g.O.Link g.O.Upstream g.P.Transform
    (λ l. g.met.C.Link.goes_still l l (g.met.C.Link.stays l))
    (λ l. g.met.O.Link.goes_still l l (g.met.O.Link.stays l)) f
    old p c.work.new.self pair c.in-Some.is c.requires.asked next.0 c.work.result c.work.ensures.ok
    c.work.ensures.err)
