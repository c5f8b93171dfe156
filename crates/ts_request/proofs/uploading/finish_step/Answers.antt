-- All was sent, and the upload is not refused.
use Rattle.std.proofs.Common.{◌≡◌, subst, true}
use Rattle.ts_link.specs.Link.{all_of}
use Rattle.ts_request.proofs.BodySteps.{is_ended}
use Rattle.ts_request.proofs.Finishing.{finish_step}
use Rattle.ts_request.proofs.uploading.finish_step.Goals as goal

pub returns : goal.returns
returns g c =
    finish_step g.C.Link g.O.Link g.O.Upstream g.P.Transform
    (λ l. g.met.C.Link.goes_still l l (g.met.C.Link.stays l))
    (λ l. g.met.O.Link.goes_still l l (g.met.O.Link.stays l))
    c.args.front.now c.args.carrier.now c.requires.pair c.known.ensures.shows (subst (λ l. g.C.Link.tells ≡
    true → all_of (g.C.Link.look l) ≡ (g.C.Link.look l).source) c.client.ensures
    c.known-2.ensures) c.requires.begun
    c.requires.none c.requires.asked
    (is_ended c.args.carrier.now.passage c.args.carrier.now.inbox c.requires.ended)
