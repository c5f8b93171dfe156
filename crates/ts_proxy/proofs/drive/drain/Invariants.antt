use Rattle.std.proofs.Common.{◌≡◌, ◌+◌, ◌≤◌, length, true}
use Rattle.ts_proxy.specs.Sending.{Passes, StaysSound, for_client, left_of, to_come}
use Rattle.ts_proxy.proofs.drive.drain.Given as goal

-- what was taken and what still flows is what flowed, nothing failed, and a sound world stays so
abbrev pub invariant-loop-block : goal.invariant-loop-block
invariant-loop-block g l = record {
  passes : g.K.Sink.tells ≡ true
      → Passes (g.K.Sink.seen l.initial.out) (g.K.Sink.seen l.out)
      (to_come g.P.Transform.rest l.initial.world) (to_come g.P.Transform.rest l.world);
  faults : (g.K.Sink.seen l.out).faults ≡ (g.K.Sink.seen l.initial.out).faults;
  falls : left_of g.P.Transform.rest l.world + length (for_client l.initial.world)
      ≤ left_of g.P.Transform.rest l.initial.world + length (for_client l.world);
  stays : StaysSound l.initial.world l.world;
}

abbrev pub decreases-loop-block : goal.decreases-loop-block
decreases-loop-block g l = length (for_client l.world)
