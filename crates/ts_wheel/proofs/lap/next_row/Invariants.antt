use Rattle.ts_wheel.specs.Rows.{AreEmptyBelow}
use Rattle.ts_wheel.proofs.lap.next_row.Given as goal

abbrev pub invariant-rows : goal.invariant-rows
invariant-rows g l = AreEmptyBelow l.place l.rows.items
