-- Nothing was sent, and nothing read.
use Rattle.ts_request.proofs.Delivering.{pairs_fresh}
use Rattle.ts_request.proofs.delivery.paired.Goals as goal

pub returns : goal.returns
returns g c l o setup fresh made inside acts new =
    pairs_fresh g.C.Link g.O.Link g.O.Upstream g.P.Transform c.args._front.now c.args._carrier.now l o setup
    fresh
    made inside acts new
