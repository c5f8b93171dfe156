-- A step was made, or a plugin is asked, or a body begins.
use Rattle.ts_txn.proofs.PhaseEvents.{asks_owes, asks_pays, enters_owes, enters_pays, head_to_enter}
use Rattle.ts_txn.proofs.PhaseEvents.{stands_to_enter, steps_owes, steps_pays}
use Rattle.ts_txn.proofs.course_events.advance_phase.Goals as goal

-- A step was made.
pub returns-in-Steps-clause-owes : goal.returns-in-Steps-clause-owes
returns-in-Steps-clause-owes g c =
    steps_owes g.C.Link g.O.Link g.O.Upstream g.P.Transform c.args.core.now c.lead.new.self c.args.phase
    c.args.main.now c.after_step.new.main c.args.cx.now c.after_step.new.cx c.requires.turn c.requires.stands
    c.requires.alone c.in-Steps.step c.after_step.result c.in-Steps.ensures c.after_step.ensures.course
    c.after_step.ensures.within c.after_step.ensures.due c.after_step.ensures.covered

pub returns-in-Steps-clause-pays : goal.returns-in-Steps-clause-pays
returns-in-Steps-clause-pays g c =
    steps_pays g.C.Link g.O.Link g.O.Upstream g.P.Transform c.args.core.now c.lead.new.self c.args.phase
    c.args.main.now c.after_step.new.main c.args.cx.now c.after_step.new.cx c.requires.turn c.requires.stands
    c.requires.alone c.in-Steps.step c.after_step.result c.in-Steps.ensures c.after_step.ensures.course
    c.after_step.ensures.within

-- A plugin is asked.
pub returns-in-Asks-clause-owes : goal.returns-in-Asks-clause-owes
returns-in-Asks-clause-owes g c =
    asks_owes g.C.Link g.O.Link g.O.Upstream g.P.Transform c.args.core.now c.lead.new.self c.args.phase
    c.args.main.now c.args.main.now c.args.cx.now c.args.cx.now c.requires.turn c.requires.stands
    c.requires.alone c.in-Asks.phase c.in-Asks.group c.in-Asks.question c.in-Asks.ensures c.requires.quiet

pub returns-in-Asks-clause-pays : goal.returns-in-Asks-clause-pays
returns-in-Asks-clause-pays g c =
    asks_pays g.C.Link g.O.Link g.O.Upstream g.P.Transform c.args.core.now c.lead.new.self c.args.phase
    c.args.main.now c.args.main.now c.args.cx.now c.args.cx.now c.requires.turn c.requires.stands
    c.requires.alone c.in-Asks.phase c.in-Asks.group c.in-Asks.question c.in-Asks.ensures

-- A body begins.
pub enter_relay-requires-clause-stands : goal.enter_relay-requires-clause-stands
enter_relay-requires-clause-stands g c =
    stands_to_enter g.C.Link g.O.Link g.O.Upstream g.P.Transform c.args.core.now c.lead.new.self c.args.phase
    c.requires.stands c.in-Enters.request c.in-Enters.head c.in-Enters.fields c.in-Enters.ensures

pub enter_relay-requires-clause-head : goal.enter_relay-requires-clause-head
enter_relay-requires-clause-head g c =
    head_to_enter g.C.Link g.O.Link g.O.Upstream c.args.core.now c.lead.new.self c.args.phase
    c.in-Enters.request c.in-Enters.head c.in-Enters.fields c.in-Enters.ensures

pub returns-in-Enters-clause-owes : goal.returns-in-Enters-clause-owes
returns-in-Enters-clause-owes g c =
    enters_owes g.C.Link g.O.Link g.O.Upstream g.P.Transform c.args.core.now c.lead.new.self
    c.enter_relay.new.core c.args.phase c.in-Enters.request c.in-Enters.head c.in-Enters.fields
    c.in-Enters.ensures c.args.cx.now c.enter_relay.new.cx c.args.main.now c.enter_relay.new.main
    c.enter_relay.result (c.enter_relay.ensures.owes c.args.phase)

pub returns-in-Enters-clause-pays : goal.returns-in-Enters-clause-pays
returns-in-Enters-clause-pays g c =
    enters_pays g.C.Link g.O.Link g.O.Upstream g.P.Transform c.args.core.now c.lead.new.self
    c.enter_relay.new.core c.args.phase c.in-Enters.request c.in-Enters.head c.in-Enters.fields
    c.in-Enters.ensures c.args.cx.now c.enter_relay.new.cx c.args.main.now c.enter_relay.new.main
    c.enter_relay.result (c.enter_relay.ensures.pays c.args.phase)
