use Rattle.ts_wheel.proofs.Parted.{taken_past}
use Rattle.ts_wheel.proofs.wheel.take_from.Goals as goal

pub returns-clause-parted : goal.returns-clause-parted
returns-clause-parted g c = taken_past c.args.now c.args.past.now c.take_due.new.self c.args.lap.now
    c.args.later.now c.requires c.take_due.ensures.rest
