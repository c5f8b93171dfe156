-- Between two turns the world is sound.
use Rattle.std.specs.Prelude.{◌≡◌, false}
use Rattle.ts_transform.specs.World.{IsSoundGroup}
use Rattle.ts_transform_tests.proofs.worlds.run.Given as goal

abbrev pub invariant-turns : goal.invariant-turns
invariant-turns g l = record {
  idle : l.group.cx.log.state.held ≡ false;
  sound : IsSoundGroup l.group;
}
