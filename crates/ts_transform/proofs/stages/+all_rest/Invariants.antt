use Rattle.std.proofs.Common.{length}
use Rattle.ts_transform.proofs.stages.+all_rest.Given as goal

-- the stages that are left
abbrev pub decreases-all_rest : goal.decreases-all_rest
decreases-all_rest g l = length l.stages.now
