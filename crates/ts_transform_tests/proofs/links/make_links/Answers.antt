-- A world that was made is sound whatever its group.
use Rattle.std.proofs.Common.{subst, sym}
use Rattle.std.proofs.lemmas.Result.{IfOk-at_ok}
use Rattle.ts_transform.specs.Carrying.{IsCarried}
use Rattle.ts_transform_tests.proofs.links.make_links.Goals as goal

pub returns-clause-carried : goal.returns-clause-carried
returns-clause-carried g c =
    let group = c.expect-group.result in
    let world = IfOk-at_ok _ c.expect-group.ensures c.make-2.ensures.world in
    let carried = IfOk-at_ok _ c.expect-world.ensures c.make.ensures.carried in
    subst (λ w. IsCarried w group.cx.log.state.pending group.cx.log.state.next group.cx.roles)
    (sym world)
    (carried group.cx.log.state.pending group.cx.log.state.next group.cx.roles)
