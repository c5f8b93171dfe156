-- A read keeps nothing.
use Rattle.ts_layers.proofs.Keeping.{kept_read}
use Rattle.ts_layers.proofs.kept.KeptLink.read.Goals as goal

pub invariant_of-self : goal.invariant_of-self
invariant_of-self g c =
    let k = c.self.inside in (
      kept_read g.O.Link.tells k.keeps (g.O.Link.look k.inner) (g.O.Link.look c.read.new.self) k.kept.items
          c.self.invariant.0 c.read.result c.read.new.into c.read.ensures.reads,
      c.self.invariant.1,
    )
