-- What was taken in the origin's place is told by the two ends together, if there is an origin's.
use Rattle.std.proofs.Common.{Option, subst, sym}
use Rattle.std.specs.Prelude.{IfSome}
use Rattle.ts_layers.specs.Layers.{EndsDeliver}
use Rattle.ts_layers.specs.Links.{OriginEnd}
use Rattle.ts_layers.proofs.off.links_left.Goals as goal

pub returns-clause-carried : goal.returns-clause-carried
returns-clause-carried g c =
    subst (λ (o : Option (OriginEnd g.row.O.Denot g.row.P.Denot)).
    IfSome o (EndsDeliver g.C.Link g.O.Link g.O.Upstream g.P.Transform c.args.client)) (sym c.in-Some.is)
    c.delivered.ensures
