-- The search stands behind heads that are all interim.
use Rattle.std.proofs.Common.{◌≤◌, ◌-◌, drop, length}
use Rattle.ts_block.specs.Heads.{PassesInterims}
use Rattle.ts_block.proofs.heads.find_final.Given as goal

-- interim heads alone were passed
abbrev pub invariant-loop-head : goal.invariant-loop-head
invariant-loop-head l = PassesInterims l.bytes (drop l.at l.bytes) × (l.at ≤ length l.bytes)

abbrev pub decreases-loop-head : goal.decreases-loop-head
decreases-loop-head l = length l.bytes - l.at
