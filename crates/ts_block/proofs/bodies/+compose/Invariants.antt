-- Each call has one line less to go.
use Rattle.std.proofs.Common.{length}
use Rattle.ts_block.proofs.bodies.+compose.Given as goal

abbrev pub decreases-compose : goal.decreases-compose
decreases-compose l = length l.lines.now
