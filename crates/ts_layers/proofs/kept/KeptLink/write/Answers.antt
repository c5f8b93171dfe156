-- A write keeps what it took, where that is asked for, and else nothing.
use Rattle.std.proofs.Common.{◌∙◌}
use Rattle.ts_layers.proofs.Keeping.{kept_write}
use Rattle.ts_layers.proofs.kept.KeptLink.write.Goals as goal

pub invariant_of-self : goal.invariant_of-self
invariant_of-self g c =
    let k = c.self.inside in
    let w = c.write_kept in (
      kept_write g.O.Link.tells k.keeps (g.O.Link.look k.inner) (g.O.Link.look w.new.inner) k.kept.items
          c.self.invariant.0 w.result c.args.piece.now w.new.kept.items w.ensures.writes w.ensures.keeps,
      λ unasked. w.ensures.unasked unasked ∙ c.self.invariant.1 unasked,
    )
