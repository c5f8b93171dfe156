-- What was kept stands in what holds of it.
use Rattle.std.proofs.Common.{subst}
use Rattle.ts_layers.specs.Kept.{IsKept, Keeping, KeepsNone}
use Rattle.ts_layers.proofs.kept.Kept.into_parts.Goals as goal

pub returns-clause-kept : goal.returns-clause-kept
returns-clause-kept g c =
    subst (λ (k : Keeping g.row.O.Denot). IsKept g.O.Link.tells k.keeps (g.O.Link.look k.inner) k.kept)
    c.self.view_is c.self.invariant.0

pub returns-clause-none : goal.returns-clause-none
returns-clause-none g c =
    subst (λ (k : Keeping g.row.O.Denot). KeepsNone k.keeps k.kept) c.self.view_is c.self.invariant.1
