use Rattle.std.proofs.Common.{◌-◌}
use Rattle.ts_request.proofs.KeptLines.{LinesKept}
use Rattle.ts_request.proofs.lines.keep_lines.Given as goal

-- the lines so far were put together
abbrev pub invariant-lines : goal.invariant-lines
invariant-lines l = LinesKept l.used l.initial.room l.room l.kept l.at

abbrev pub decreases-lines : goal.decreases-lines
decreases-lines l = l.used - l.at
