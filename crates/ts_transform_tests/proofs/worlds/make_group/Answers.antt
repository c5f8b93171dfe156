-- A world that was made is sound whatever its group, since nothing is pending.
use Rattle.std.proofs.Common.{◌≡◌, [], ap, subst, sym}
use Rattle.std.proofs.lemmas.Result.{IfOk-at_ok}
use Rattle.ts_group.specs.Context.{AllPlain}
use Rattle.ts_transform.specs.World.{IsSound}
use Rattle.ts_transform_tests.proofs.worlds.make_group.Goals as goal

pub returns-clause-sound : goal.returns-clause-sound
returns-clause-sound g c =
    let group = c.expect-group.result in
    let world = IfOk-at_ok _ c.expect-group.ensures c.make-2.ensures.world in
    let fresh = IfOk-at_ok _ c.expect-group.ensures c.make-2.ensures.fresh in
    let sound = IfOk-at_ok _ c.expect-world.ensures c.make.ensures.sound in
    let none : group.cx.log.state.pending ≡ [] = ap (λ s. s.pending) fresh.state in
    subst (λ w. IsSound w group.cx.log.state.pending group.cx.roles) (sym world)
    (sound group.cx.log.state.pending group.cx.roles (subst AllPlain (sym none) tt))
