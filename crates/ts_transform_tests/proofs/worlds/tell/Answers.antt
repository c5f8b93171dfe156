-- The world stays sound where an event is set.
use Rattle.std.proofs.Common.{subst, sym}
use Rattle.ts_transform.specs.World.{IsSound}
use Rattle.ts_transform.proofs.Kept.{set_keeps}
use Rattle.ts_transform.proofs.Covering.{sound_kept}
use Rattle.ts_transform_tests.proofs.worlds.tell.Goals as goal

pub returns-clause-sound : goal.returns-clause-sound
returns-clause-sound g c =
    let world = c.begin_turn.new.group.world in
    let cx = c.cx.result.now in
    let now = c.call.new.self in
    c.give_turn.ensures.sound
    (sound_kept cx now world.driven.chain world.driven.table.items world.driven.running
    (set_keeps cx now _ _ _ _ c.call.ensures.sets c.call.ensures.roles)
    (subst (λ x. IsSound world x.log.state.pending x.roles) (sym c.cx.ensures.value)
    c.begin_turn.ensures.sound))
