-- One write to the origin inside is a step.
use Rattle.std.proofs.Common.{sym, subst}
use Rattle.ts_request.specs.Carried.{UploadsStep}
use Rattle.ts_request.proofs.Writing.{write_step}
use Rattle.ts_request.proofs.uploading.write_on.Goals as goal

pub returns : goal.returns
returns g c f pair =
    let pushed = c.push_waiting-pushed in
    let old = c.args.carrier.now in
    subst (λ a. UploadsStep g.C.Link g.O.Link g.O.Upstream g.P.Transform a f f old
    (record old { origin = pushed.new.link; out = pushed.new.from })) (sym c.answer_pushed.ensures)
    (write_step g.C.Link g.O.Link g.O.Upstream g.P.Transform
    (λ l. g.met.C.Link.goes_still l l
    (g.met.C.Link.stays l)) f old pushed.new.link pushed.new.from pushed.result
    pushed.ensures.moved c.requires.begun c.requires.some pair
    (g.met.O.Upstream.pair_stays f.client f.client old.origin pushed.new.link pair.inside
    (g.met.C.Link.stays f.client) pushed.ensures.goes)
    (g.met.O.Upstream.refusal_stays old.origin pushed.new.link pushed.ensures.goes)
    (g.met.O.Link.goes_still old.origin pushed.new.link pushed.ensures.goes)
    (g.met.O.Upstream.left_rises f.client f.client old.origin pushed.new.link
    (g.met.C.Link.stays f.client) pushed.ensures.goes))
