-- Both ends of a body are roused that must work.
use Rattle.ts_relay.proofs.BodyEvents.{settles}
use Rattle.ts_relay.proofs.events.settle_body.Goals as goal

pub returns-clause-settles : goal.returns-clause-settles
returns-clause-settles g c =
    settles c.rouse_ends.result c.must_send-writes.result _ c.args.main.now c.rouse_ends.new.main
    c.args.relay.now c.rouse_ends.new.relay c.args.cx.now c.rouse_ends.new.cx c.known.ensures
    c.must_send-writes.ensures c.rouse_ends.ensures.rouses c.rouse_ends.ensures.relay
