use Rattle.std.proofs.Common.{length}
use Rattle.ts_request_tests.proofs.rows.unescaped.Given as goal

abbrev pub decreases-loop-rest : goal.decreases-loop-rest
decreases-loop-rest g l = length l.rest
