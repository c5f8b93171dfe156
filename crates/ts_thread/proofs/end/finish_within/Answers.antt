use Rattle.std.proofs.Common.{subst}
use Rattle.std.specs.Result.{IsErrOf}
use Rattle.std.specs.List.{sum_by, All}
use Rattle.ts_thread.specs.declared.did.Unfinished.TheVariants as unfinished
use Rattle.ts_thread.specs.Goings.{HasTurns, left_in_all}
use Rattle.ts_thread.proofs.Rows.{finish_spares}
use Rattle.ts_thread.proofs.end.finish_within.Goals as goal

pub returns-clause-spares : goal.returns-clause-spares
returns-clause-spares g c =
    subst (λ gs. All (HasTurns c.args.limit (sum_by (left_in_all g.W.World.left) gs)) gs → IsErrOf
    c.finish_all.result unfinished.Worn → ⊥) c.as_mut_slice.ensures.value
    (finish_spares g.W.Slotted.fits g.W.World.sound g.W.World.only_asked g.W.World.is_first g.W.World.left
    c.args.limit c.as_mut_slice.result.now c.finish_all.new.groups c.finish_all.result
    c.finish_all.ensures)
