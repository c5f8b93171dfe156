use Rattle.ts_wheel.proofs.Orders.{in_order-added}
use Rattle.ts_wheel.proofs.laws.adds_in_order.Goals as goal

pub returns : goal.returns
returns g c = in_order-added
