use Rattle.ts_wheel.proofs.Orders.{due_takes}
use Rattle.ts_wheel.proofs.laws.takes_the_due.Goals as goal

pub returns : goal.returns
returns g c = due_takes
