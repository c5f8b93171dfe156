use Rattle.std.proofs.Common.{length}
use Rattle.ts_transform.proofs.stages.+close_all.Given as goal

-- the stages that are left
abbrev pub decreases-close_all : goal.decreases-close_all
decreases-close_all g l = length l.stages.now
