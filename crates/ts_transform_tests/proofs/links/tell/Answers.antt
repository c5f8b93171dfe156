-- Each duty keeps its event where another is set.
use Rattle.std.proofs.Common.{sym, subst}
use Rattle.ts_transform.specs.Carrying.{IsCarried}
use Rattle.ts_transform.proofs.Joined.{carried_kept}
use Rattle.ts_transform.proofs.Kept.{set_keeps}
use Rattle.ts_transform.proofs.Losing.{grows_next}
use Rattle.ts_transform_tests.proofs.links.tell.Goals as goal

pub returns-clause-carried : goal.returns-clause-carried
returns-clause-carried g c =
    let world = c.begin_turn.new.group.world in
    let cx = c.cx.result.now in
    let now = c.call.new.self in
    c.give_turn.ensures.sound
    (carried_kept cx now world (set_keeps cx now _ _ _ _ c.call.ensures.sets c.call.ensures.roles)
    (grows_next cx now c.call.ensures.grows)
    (subst (λ x. IsCarried world x.log.state.pending x.log.state.next x.roles) (sym c.cx.ensures.value)
    c.begin_turn.ensures.carried))
