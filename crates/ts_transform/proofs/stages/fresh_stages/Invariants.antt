use Rattle.std.proofs.Common.{◌≡◌, map}
use Rattle.ts_transform.specs.Flow.{fresh_stage}
use Rattle.ts_transform.proofs.stages.fresh_stages.Given as goal

-- a fresh stage stands for each part that was taken
abbrev pub invariant-loop-part : goal.invariant-loop-part
invariant-loop-part g l =
    l.stages.items ≡ map (fresh_stage g.P.Transform.soon g.P.Transform.pause) l.yielded
