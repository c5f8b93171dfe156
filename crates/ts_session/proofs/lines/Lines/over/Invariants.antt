-- The bytes so far were written.
use Rattle.std.proofs.Common.{take}
use Rattle.ts_session.specs.Lines.{GoesOver}
use Rattle.ts_session.proofs.lines.Lines.over.Given as goal

abbrev pub invariant-loop-b : goal.invariant-loop-b
invariant-loop-b l = GoesOver l.fn.self (take l.b-index l.bytes) l.lines
