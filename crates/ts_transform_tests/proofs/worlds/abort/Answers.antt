-- The world stays sound when it is aborted.
use Rattle.std.proofs.Common.{subst, sym}
use Rattle.ts_transform.specs.World.{IsSound}
use Rattle.ts_transform_tests.proofs.worlds.abort.Goals as goal

pub returns-clause-sound : goal.returns-clause-sound
returns-clause-sound c =
    let cx = c.args.group.now.cx in
    c.abort.ensures.sound cx.log.state.pending cx.roles
    (subst (λ w. IsSound w cx.log.state.pending cx.roles) (sym c.world_mut.ensures.value) c.requires.sound)
