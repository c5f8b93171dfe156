-- While a body is passed on, an event is one of the body, and else one of the first continuation alone.
use Rattle.ts_txn.proofs.BodyEvents.{holds_relay, relay_owes, relay_pays}
use Rattle.ts_txn.proofs.Leading.{passes_none}
use Rattle.ts_txn.proofs.course_events.advance.Goals as goal

-- No body is passed on.
pub advance_alone-requires-clause-none : goal.advance_alone-requires-clause-none
advance_alone-requires-clause-none g c = passes_none c.args.course.now c.in_default.not-Relaying

-- A body is.
pub handle_body-step-requires-clause-fact : goal.handle_body-step-requires-clause-fact
handle_body-step-requires-clause-fact g c =
    holds_relay g.C.Link g.O.Link g.O.Upstream g.P.Transform c.args.core.now c.args.course.now _
    c.in-Relaying.is c.requires.called.sound.stands.holds

pub lead_body-requires-clause-turn : goal.lead_body-requires-clause-turn
lead_body-requires-clause-turn g c = c.handle_body-step.ensures.handles.body.acts.turn

pub returns-clause-owes : goal.returns-clause-owes
returns-clause-owes g c =
    relay_owes g.C.Link g.O.Link g.O.Upstream g.P.Transform c.args.core.now c.handle_body-step.new.core
    c.args.course.now _ c.handle_body-step.new.relay c.in-Relaying.is c.args.main.now
    c.handle_body-step.new.main c.lead_body.new.main c.args.role c.args.event c.args.cx.now
    c.handle_body-step.new.cx c.lead_body.new.cx c.handle_body-step.result c.lead_body.new.course
    c.requires.called c.handle_body-step.ensures.leads c.handle_body-step.ensures.handles
    c.handle_body-step.ensures.pays c.lead_body.ensures

pub returns-clause-pays : goal.returns-clause-pays
returns-clause-pays g c =
    relay_pays g.C.Link g.O.Link g.O.Upstream g.P.Transform c.args.core.now c.handle_body-step.new.core
    c.args.course.now _ c.handle_body-step.new.relay c.in-Relaying.is c.args.main.now
    c.handle_body-step.new.main c.lead_body.new.main c.args.role c.args.event c.args.cx.now
    c.handle_body-step.new.cx c.lead_body.new.cx c.handle_body-step.result c.lead_body.new.course
    c.requires.called c.handle_body-step.ensures.leads c.handle_body-step.ensures.handles
    c.handle_body-step.ensures.pays c.lead_body.ensures
