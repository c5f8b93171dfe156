-- No turn is held between two turns, and the world is sound.
use Rattle.std.proofs.Common.{◌≡◌, false}
use Rattle.ts_thread_tests.proofs.groups.take_turns.Given as goal

abbrev pub invariant-turns : goal.invariant-turns
invariant-turns g l = record {
  idle : l.group.cx.log.state.held ≡ false;
  sound : g.W.World.sound l.group.world l.group.cx.log.state l.group.cx.roles;
}
