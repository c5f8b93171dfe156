use Rattle.std.proofs.Common.{subst, sym, true}
use Rattle.ts_transform.specs.Flow.{EndsInOrder}
use Rattle.ts_transform.proofs.Carrying.{order_fresh}
use Rattle.ts_transform.proofs.Soon.{composes_fresh}
use Rattle.ts_transform.proofs.chain.Chain.make.Goals as goal

pub returns-clause-flow : goal.returns-clause-flow
returns-clause-flow g c =
    composes_fresh g.P.Transform.rest g.P.Transform.soon g.P.Transform.pause g.met.P.Transform.is_done
    c.args.parts.items c.in_ok-first.first c.in_ok-stages.stages.items c.in_ok-first.ensures
    c.in_ok-stages.ensures

pub returns-clause-ordered : goal.returns-clause-ordered
returns-clause-ordered g c = subst (EndsInOrder true) (sym c.in_ok-stages.ensures)
    (order_fresh g.P.Transform.soon g.P.Transform.pause true c.args.parts.items)
