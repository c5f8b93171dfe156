-- A body begins, and its ends are roused: where that leads, and that it lowers what is left to do.
use Rattle.std.proofs.Common.{length, ap}
use Rattle.std.specs.Arc.{arc_value}
use Rattle.ts_phases.specs.View.{OriginRefuses, view_of}
use Rattle.ts_relay.proofs.BodyEvents.{begins_body, settled_as}
use Rattle.ts_relay.proofs.LoweringEntry.{begins_settled, begun_goes}
use Rattle.ts_relay.proofs.BodyTimes.{body_in_time}
use Rattle.ts_relay.proofs.events.begin_body.Goals as goal

pub returns-clause-leads : goal.returns-clause-leads
returns-clause-leads g c = λ told also.
    settled_as (arc_value c.args.core.now.setup) (OriginRefuses g.C.Link g.O.Upstream c.args.core.now)
    g.P.Transform
    (view_of g.C.Link g.O.Link c.args.core.now) c.enter_body-step.new.relay c.settle_after.new.relay
    c.enter_body-step.result c.settle_after.result
    c.settle_after.ensures.settles.settled c.settle_after.ensures.relay (c.enter_body-step.ensures.leads told
    also)

pub returns-clause-begins : goal.returns-clause-begins
returns-clause-begins g c =
    begins_body c.enter_body-step.result c.settle_after.result (view_of g.C.Link g.O.Link c.args.core.now)
    c.args.main.now c.settle_after.new.main (length c.args.relay.now.driven.chain.stages)
    c.enter_body-step.new.relay c.settle_after.new.relay c.args.cx.now c.enter_body-step.new.cx
    c.settle_after.new.cx c.enter_body-step.ensures.begins (ap (λ r. r.driven) c.settle_after.ensures.relay)
    c.settle_after.ensures.settles

pub returns-clause-lowers : goal.returns-clause-lowers
returns-clause-lowers g c =
    begins_settled (arc_value c.args.core.now.setup) g.P.Transform.rest
    (view_of g.C.Link g.O.Link c.args.core.now) c.enter_body-step.result c.settle_after.result
    c.args.relay.now
    c.enter_body-step.new.relay
    c.settle_after.new.relay c.enter_body-step.ensures.lowers
    (begun_goes (arc_value c.args.core.now.setup) g.P.Transform.rest
    (view_of g.C.Link g.O.Link c.args.core.now) c.enter_body-step.result c.enter_body-step.new.relay
    c.args.cx.now
    c.enter_body-step.new.cx c.enter_body-step.ensures.begins)
    c.settle_after.ensures.settles.settled c.settle_after.ensures.relay

pub returns-clause-due : goal.returns-clause-due
returns-clause-due g c =
    body_in_time c.enter_body-step.result c.args.main.now c.enter_body-step.new.relay c.settle_after.new.relay
    c.args.cx.now c.enter_body-step.new.cx c.settle_after.new.cx c.enter_body-step.ensures.begins
    (ap (λ r. r.driven) c.settle_after.ensures.relay) c.settle_after.ensures.settles.adds
    c.enter_body-step.ensures.due c.settle_after.ensures.due
