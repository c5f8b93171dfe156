-- The pair says what the origin took.
use Rattle.ts_request.proofs.Delivering.{delivers}
use Rattle.ts_request.proofs.delivery.delivered.Goals as goal

pub returns : goal.returns
returns g c pair tells none =
    delivers g.C.Link g.O.Link g.O.Upstream g.P.Transform c.args._front.now c.args._carrier.now pair tells
    none
