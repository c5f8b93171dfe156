use Rattle.std.proofs.Common.{length}
use Rattle.ts_wire_tests.proofs.rows.unescaped.Given as goal

-- each turn takes a byte or more of what is left
abbrev pub decreases-loop-rest : goal.decreases-loop-rest
decreases-loop-rest l = length l.rest
