-- A continuation was there, and is destroyed.
use Rattle.ts_transform.proofs.Seats.{clears_one}
use Rattle.ts_transform.proofs.clearing.destroy_one.Goals as goal

pub returns-in-Some-clause-clears : goal.returns-in-Some-clause-clears
returns-in-Some-clause-clears c =
    clears_one c.args.cx.now c.destroy-destroyed.new.self c.args.slot.now c.in-Some.continuation _
    c.in-Some.is c.known.ensures c.destroy-destroyed.ensures.grows c.destroy-destroyed.ensures.destroys
