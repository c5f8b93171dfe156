-- A read of the body is a step, and one at which memory lacked changed nothing.
use Rattle.std.proofs.Common.{◌≡◌, sym, subst, true}
use Rattle.ts_link.specs.Link.{all_of}
use Rattle.ts_request.specs.declared.passage.Next.TheVariants as N
use Rattle.ts_request.proofs.BodySteps.{has_passage}
use Rattle.ts_request.specs.Carried.{UploadsStep}
use Rattle.ts_request.proofs.BodyReads.{read_by}
use Rattle.ts_request.proofs.uploading.read_step.Goals as goal

pub returns-in-Ok : goal.returns-in-Ok
returns-in-Ok g c =
    let old = c.args.carrier.now in
    let front = c.args.front.now in
    let new = c.read_on.new.front in
    let r = c.in-Ok.ensures.read in
    let next = has_passage old.passage old.inbox N.Read c.requires.next
    (λ e. let wrong : N.Read ≡ N.Finish = e in cc) in
    subst (λ a. UploadsStep g.C.Link g.O.Link g.O.Upstream g.P.Transform a front new old
    (record old { inbox = c.read_on.new.inbox })) (sym c.answer_read.ensures)
    (read_by g.C.Link g.O.Link g.O.Upstream g.P.Transform
    (λ l. g.met.C.Link.goes_still l l (g.met.C.Link.stays l))
    (λ l. g.met.O.Link.goes_still l l (g.met.O.Link.stays l))
    front new old c.read_on.new.inbox c.in-Ok.got c.requires.pair c.requires.asked next.0 next.1 next.2 r
    (g.met.C.Link.goes_still front.client new.client r.goes)
    (g.met.O.Upstream.pair_stays front.client new.client old.origin old.origin c.requires.pair.inside r.goes
    (g.met.O.Link.stays old.origin))
    (g.met.O.Upstream.left_rises front.client new.client old.origin old.origin r.goes
    (g.met.O.Link.stays old.origin))
    g.met.P.Transform.is_silent c.known.ensures.shows (subst (λ l. g.C.Link.tells ≡ true → all_of
    (g.C.Link.look l) ≡ (g.C.Link.look l).source) c.client.ensures
    c.known-in-Ok.ensures))
