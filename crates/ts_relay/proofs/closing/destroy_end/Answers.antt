-- The continuation is gone, with its events.
use Rattle.ts_transform.proofs.Seats.{clears_one}
use Rattle.ts_relay.proofs.closing.destroy_end.Goals as goal

pub returns-in-Some-clause-clears : goal.returns-in-Some-clause-clears
returns-in-Some-clause-clears c =
    clears_one c.args.cx.now c.destroy-destroyed.new.self c.args.slot.now c.in-Some.continuation
    c.destroy-destroyed.result c.in-Some.is c.known.ensures c.destroy-destroyed.ensures.grows
    c.destroy-destroyed.ensures.destroys
