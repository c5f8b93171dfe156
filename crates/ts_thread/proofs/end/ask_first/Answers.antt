use Rattle.std.proofs.Common.{◌∷◌, sym, subst}
use Rattle.ts_lists.proofs.Anys.{any_head}
use Rattle.ts_thread.specs.Goings.{AllGoOn, IsWorn, came_of}
use Rattle.ts_thread.proofs.Rows.{all_refl}
use Rattle.ts_thread.proofs.end.ask_first.Goals as goal

pub returns-clause-goes : goal.returns-clause-goes
returns-clause-goes g c =
    let are = c.in-Some.ensures.cases.0 in
    subst (λ gs. AllGoOn g.W.Slotted.fits g.W.World.sound g.W.World.only_asked g.W.World.is_first
    g.W.World.left c.args.limit (came_of c.ask_one.result) gs
    (c.ask_one.new.group ∷ c.in-Some._others.now) 1) (sym are) (
      c.ask_one.ensures.goes,
      all_refl g.W.Slotted.fits g.W.World.sound g.W.World.only_asked
          g.W.World.is_first g.W.World.left c.args.limit _ c.in-Some._others.now 1,
    )

pub returns-clause-worn : goal.returns-clause-worn
returns-clause-worn g c = λ is. any_head (IsWorn g.W.Slotted.fits g.W.World.sound g.W.World.only_asked
    g.W.World.is_first c.args.limit) c.ask_one.new.group c.in-Some._others.now (c.ask_one.ensures.worn is)
