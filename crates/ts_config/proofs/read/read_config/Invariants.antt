use Rattle.std.proofs.Common.{◌+◌, ◌≤◌, length}
use Rattle.ts_config.specs.Reading.{AreFew}
use Rattle.ts_config.specs.Setup.{lines_of}
use Rattle.ts_config.proofs.LinesSoFar.{LinesRead}
use Rattle.ts_config.proofs.read.read_config.Given as goal

-- the lines before the rest were read
abbrev pub invariant-loop-rest : goal.invariant-loop-rest
invariant-loop-rest l = record {
  read : LinesRead l.bytes l.rest l.line_number (lines_of l.setup) l.setup.files.items;
  few : AreFew (lines_of l.setup);
  counted : l.line_number + length l.rest ≤ length l.bytes;
}

abbrev pub decreases-loop-rest : goal.decreases-loop-rest
decreases-loop-rest l = length l.rest
