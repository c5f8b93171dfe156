-- So far no stage pauses.
use Rattle.std.proofs.Common.{◌≡◌, ℕ, ◌<◌}
use Rattle.ts_transform.specs.Flow.{pause_at}
use Rattle.ts_relay.proofs.making.has_pause.Given as goal

abbrev pub invariant-loop-stage : goal.invariant-loop-stage
invariant-loop-stage g l = (j : ℕ) → j < l.stage → pause_at g.P.Transform.pause l.chain.stages j ≡ 0
