-- The end that is framed is a step.
use Rattle.std.proofs.Common.{Some, sym, subst}
use Rattle.ts_request.specs.Carried.{UploadsStep}
use Rattle.ts_request.specs.declared.passage.Next.TheVariants as N
use Rattle.ts_request.proofs.BodySteps.{end_by, next_is}
use Rattle.ts_request.proofs.uploading.end_step.Goals as goal

pub returns : goal.returns
returns g c f pair =
    let old = c.args.carrier.now in
    let p = c.in-Some.passage in
    let next = next_is old.passage old.inbox N.End p c.requires.next c.in-Some.is in
    subst (λ a. UploadsStep g.C.Link g.O.Link g.O.Upstream g.P.Transform a f f old
    (record old { out = c.end.new.out; passage = Some c.end.new.self })) (sym c.answer_work.ensures)
    (end_by g.C.Link g.O.Link g.O.Upstream g.P.Transform
    (λ l. g.met.C.Link.goes_still l l (g.met.C.Link.stays l))
    (λ l. g.met.O.Link.goes_still l l (g.met.O.Link.stays l)) f
    old p c.end.new.self pair c.in-Some.is c.requires.asked next.0 c.end.new.out c.end.result next.1
    c.end.ensures.ok c.end.ensures.ended c.end.ensures.err)
