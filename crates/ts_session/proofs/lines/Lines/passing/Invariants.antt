-- A place within the bytes is looked at, and no line that may be dropped begins before it.
use Rattle.std.proofs.Common.{◌-◌, ◌≤◌, length, take}
use Rattle.ts_session.specs.Lines.{GoesOver, PassesNoLine}
use Rattle.ts_session.proofs.lines.Lines.passing.Given as goal

abbrev pub invariant-bytes : goal.invariant-bytes
invariant-bytes l = record {
  within : l.at ≤ length l.bytes;
  over : GoesOver l.fn.self (take l.at l.bytes) l.lines;
  passes : PassesNoLine l.asks_head l.fn.self l.bytes l.at;
}

abbrev pub decreases-bytes : goal.decreases-bytes
decreases-bytes l = length l.bytes - l.at
