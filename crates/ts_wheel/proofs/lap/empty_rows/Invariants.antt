use Rattle.std.proofs.Common.{◌≡◌, length}
use Rattle.ts_wheel.specs.Rows.{AreEmptyBelow}
use Rattle.ts_wheel.proofs.lap.empty_rows.Given as goal

abbrev pub invariant-loop : goal.invariant-loop
invariant-loop g l = (length l.rows.items ≡ l.counter) × AreEmptyBelow l.counter l.rows.items
