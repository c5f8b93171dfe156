-- The body is bad, and no line finished early on it.
use Rattle.std.proofs.Common.{◌≡◌, subst, true}
use Rattle.ts_link.specs.Link.{all_of}
use Rattle.ts_request.specs.declared.passage.Next.TheVariants as N
use Rattle.ts_request.proofs.BodySteps.{has_passage}
use Rattle.ts_request.proofs.Finishing.{refuse_step}
use Rattle.ts_request.proofs.uploading.refuse_step.Goals as goal

pub returns : goal.returns
returns g c =
    let old = c.args.carrier.now in
    let next = has_passage old.passage old.inbox N.Refuse c.requires.next
    (λ e. let wrong : N.Refuse ≡ N.Finish = e in cc) in
    refuse_step g.C.Link g.O.Link g.O.Upstream g.P.Transform
    (λ l. g.met.C.Link.goes_still l l (g.met.C.Link.stays l))
    (λ l. g.met.O.Link.goes_still l l (g.met.O.Link.stays l))
    c.args.front.now old c.requires.pair c.known.ensures.shows (subst (λ l. g.C.Link.tells ≡ true → all_of
    (g.C.Link.look l) ≡ (g.C.Link.look l).source) c.client.ensures
    c.known-2.ensures) next.0 next.1 next.2.1 next.2.2
    g.met.P.Transform.is_silent
