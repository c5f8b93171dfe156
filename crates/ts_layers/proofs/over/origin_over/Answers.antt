-- A carrier over what keeps what it takes, over what chooses between an origin and the lines, is the origin's
-- end.
use Rattle.std.proofs.lemmas.Result.{IfOk-weaker}
use Rattle.std.specs.Arc.{arc_value}
use Rattle.ts_request.specs.Carrying.{IsFreshCarrier}
use Rattle.ts_layers.specs.Layers.{IsOriginOver}
use Rattle.ts_layers.proofs.Layering.{chosen_takes, origin_made, unused_lifted}
use Rattle.ts_layers.proofs.over.origin_over.Goals as goal

pub make-requires : goal.make-requires
make-requires g c = λ told.
    unused_lifted g.O.Link.look c.args.origin c.lifted-origin.result c.lifted-origin.ensures (c.requires told)

pub make-kept-requires : goal.make-kept-requires
make-kept-requires g c = λ told.
    chosen_takes g.O.Link.look c.args.origin c.lifted-origin.result
    (arc_value c.in_ok-intercepts.intercepts) c.in_ok-chosen.chosen c.lifted-origin.ensures
    c.in_ok-chosen.ensures (c.requires told)

pub returns : goal.returns
returns g c =
    IfOk-weaker c.make-2.result (IsFreshCarrier c.make-kept.result (arc_value c.in_ok-requests.requests))
    (IsOriginOver (arc_value c.args.setup.now) c.args.keeps c.args.origin)
    (λ e fresh. origin_made (arc_value c.args.setup.now) c.args.keeps c.args.origin c.lifted-origin.result
    (arc_value c.in_ok-intercepts.intercepts) (arc_value c.in_ok-requests.requests) c.in_ok-chosen.chosen
    c.make-kept.result e c.lifted-origin.ensures c.in_ok-intercepts.ensures.cases
    c.in_ok-requests.ensures.cases c.in_ok-chosen.ensures c.make-kept.ensures fresh) c.make-2.ensures
