use Rattle.std.proofs.Common.{Ok, sym, subst}
use Rattle.ts_transform.specs.Driving.{HasEventIf}
use Rattle.ts_transform.specs.World.{IsSound}
use Rattle.ts_transform.proofs.Covering.{marked_sound}
use Rattle.ts_transform.proofs.Kept.{keeps_refl, set_keeps, set_event, works_soon}
use Rattle.ts_transform.proofs.world.ChainWorld.wake.Goals as goal

pub returns-in_default-clause-sound : goal.returns-in_default-clause-sound
returns-in_default-clause-sound g c =
    let cx = c.args.group.now.cx in
    let world = c.world_mut.result.now in
    let marked = c.mark.new.self in
    marked_sound cx cx world.driven.chain marked.driven.chain world.driven.table.items
    marked.driven.table.items world.driven.running marked.driven.running c.in_ok-key.field-0
    c.in_ok-key.ensures.driven c.mark.ensures.chain c.in_ok-key.ensures.course.0
    (keeps_refl cx c.requires.turn)
    (subst (HasEventIf cx.log.state.pending) (sym c.in_default.is) tt)
    (subst (λ w. IsSound w cx.log.state.pending cx.roles) (sym c.world_mut.ensures.value) c.requires.sound)

pub returns-clause-sound : goal.returns-clause-sound
returns-clause-sound g c =
    let cx = c.cx.result.now in
    let now = c.schedule.new.self in
    let world = c.world_mut.result.now in
    let marked = c.mark.new.self in
    marked_sound cx now world.driven.chain marked.driven.chain world.driven.table.items
    marked.driven.table.items world.driven.running marked.driven.running c.in_ok-key.field-0
    c.in_ok-key.ensures.driven c.mark.ensures.chain c.in_ok-key.ensures.course.0
    (set_keeps cx now _ _ _ _ c.schedule.ensures.sets c.schedule.ensures.roles)
    (subst (HasEventIf now.log.state.pending) (sym c.in-Some.is)
    (set_event cx now (Ok c.in_default-schedule.field-0) c.in-Some.key _ _
    c.in_default-schedule.ensures.sets (works_soon _)))
    (subst (λ x. IsSound world x.log.state.pending x.roles) (sym c.cx.ensures.value)
    (subst (λ w. IsSound w c.args.group.now.cx.log.state.pending c.args.group.now.cx.roles)
    (sym c.world_mut.ensures.value) c.requires.sound))
