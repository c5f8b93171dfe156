-- The origin's own upload makes a step.
use Rattle.std.proofs.Common.{sym, subst}
use Rattle.ts_request.specs.Carried.{UploadsStep}
use Rattle.ts_request.proofs.Asking.{ask_step}
use Rattle.ts_request.proofs.uploading.ask_inside.Goals as goal

pub returns : goal.returns
returns g c =
    let asked = c.upload_inside-answer in
    let old = c.args.carrier.now in
    let front = c.args.front.now in
    subst (λ a. UploadsStep g.C.Link g.O.Link g.O.Upstream g.P.Transform a front asked.new.self old
    (record old { origin = asked.new.origin; asked = c.is_done-carrier.result })) (sym c.answer_asked.ensures)
    (subst (λ x. UploadsStep g.C.Link g.O.Link g.O.Upstream g.P.Transform
    (Rattle.ts_request.specs.Carried.answer_asked asked.result) front x old
    (record old { origin = asked.new.origin; asked = c.is_done-carrier.result })) (sym asked.ensures.text)
    (subst (λ b. UploadsStep g.C.Link g.O.Link g.O.Upstream g.P.Transform
    (Rattle.ts_request.specs.Carried.answer_asked asked.result) front (record front {
      client =
          asked.new.self.client;
    })
    old (record old { origin = asked.new.origin; asked = b })) (sym c.is_done-carrier.ensures)
    (ask_step g.C.Link g.O.Link g.O.Upstream g.P.Transform front old asked.new.self.client asked.new.origin
    asked.result c.requires.pair c.requires.begun c.requires.none c.requires.waits asked.ensures.paired
    asked.ensures.causes asked.ensures.bytes asked.ensures.keeps asked.ensures.falls asked.ensures.sure)))
