use Rattle.std.proofs.Common.{◌≤◌, ◌-◌, length}
use Rattle.ts_stock.specs.Dropping.{IsUpTo}
use Rattle.ts_stock.proofs.dropping.drop_all.Given as goal

abbrev pub invariant-loop-start : goal.invariant-loop-start
invariant-loop-start l = record {
  within : l.start ≤ length l.input;
  up_to : IsUpTo l.byte l.input l.room l.written.done l.written.filled l.start;
}

abbrev pub decreases-loop-start : goal.decreases-loop-start
decreases-loop-start l = length l.input - l.start
