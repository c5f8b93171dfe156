use Rattle.ts_wheel.specs.declared.TheConstants.{ROWS}
use Rattle.ts_wheel.proofs.Spread.{lap-none}
use Rattle.ts_wheel.proofs.lap.LapRows.new.Goals as goal

pub returns : goal.returns
returns g c = lap-none 0 c.in_ok-rows.rows.items ROWS c.in_ok-rows.ensures.length c.in_ok-rows.ensures.empty
