use Rattle.std.proofs.Common.{length}
use Rattle.ts_transform.proofs.stages.+take_last.Given as goal

-- the stages that are left
abbrev pub decreases-take_last : goal.decreases-take_last
decreases-take_last g l = length l.stages.now
