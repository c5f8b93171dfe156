use Rattle.std.proofs.Common.{◌+◌, ◌*◌}
use Rattle.ts_stock.specs.Dropping.{IsUpTo}
use Rattle.ts_stock.proofs.dropping.take_pieces.Given as goal

abbrev pub invariant-loop-k : goal.invariant-loop-k
invariant-loop-k l = IsUpTo l.byte l.input l.room l.written.done l.written.filled (l.start + l.k * 32)
