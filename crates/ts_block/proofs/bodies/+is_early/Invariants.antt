-- Each call has one line less to go.
use Rattle.std.proofs.Common.{length}
use Rattle.ts_block.proofs.bodies.+is_early.Given as goal

abbrev pub decreases-is_early : goal.decreases-is_early
decreases-is_early l = length l.lines.now
