use Rattle.ts_wheel.proofs.Spread.{one_more_empty}
use Rattle.ts_wheel.proofs.lap.empty_rows.Goals as goal

pub loop-preserved : goal.loop-preserved
loop-preserved g c = rw c.in_ok-push.ensures.items
    (one_more_empty c.loop.rows.items c.loop.counter c.new.result c.loop.invariant.0 c.loop.invariant.1
    c.new.ensures.items)
