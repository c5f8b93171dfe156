use Rattle.std.proofs.Common.{length}
use Rattle.ts_transform.proofs.rousing.+mark_last.Given as goal

-- the continuations that are left
abbrev pub decreases-mark_last : goal.decreases-mark_last
decreases-mark_last l = length l.table.now
