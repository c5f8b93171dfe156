use Rattle.ts_transform.proofs.Soon.{moved_soon}
use Rattle.ts_transform.proofs.pump.pump_part.Goals as goal

pub returns-clause-soon : goal.returns-clause-soon
returns-clause-soon g c = λ e x. moved_soon (g.P.Transform.soon c.args.part.now)
    (g.P.Transform.soon c.feed_into.new.part) c.args.from.now c.take.new.self c.args.after.now
    c.feed_into.new.after c.in_ok-taken.taken c.in_ok-taken.ensures.soon c.take.ensures x
