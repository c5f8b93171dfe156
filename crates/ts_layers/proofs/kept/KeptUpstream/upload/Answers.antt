-- An upload that wrote nothing took nothing.
use Rattle.ts_layers.proofs.Keeping.{kept_upload}
use Rattle.ts_layers.proofs.kept.KeptUpstream.upload.Goals as goal

pub invariant_of-self : goal.invariant_of-self
invariant_of-self g c =
    let k = c.self.inside in (
      kept_upload g.O.Link.tells k.keeps (g.O.Link.look k.inner) (g.O.Link.look c.upload.new.self) k.kept.items
          c.self.invariant.0 c.upload.ensures.bytes.origin,
      c.self.invariant.1,
    )
