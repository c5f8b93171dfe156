use Rattle.std.specs.Prelude.{length}
use Rattle.ts_transform.proofs.clearing.+destroy_all.Given as goal

-- those that are left
abbrev pub decreases-destroy_all : goal.decreases-destroy_all
decreases-destroy_all l = length l.table.now
