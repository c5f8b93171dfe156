use Rattle.ts_transform.proofs.Moving.{stepped-flow, stepped-less}
use Rattle.ts_transform.proofs.pump.pump_at.Goals as goal

pub returns-clause-flow : goal.returns-clause-flow
returns-clause-flow g c = record {
  flow = stepped-flow g.P.Transform.rest c.args.up_ended c.args.from.now c.args.stages.now c.args.at
      c.in_ok-ran.ran.pumped c.run_at.new.from c.run_at.new.stages c.in_ok-ran.ensures.answer
      c.in_ok-ran.ensures.steps;
  soon_too = c.in_ok-ran.ensures.soon.keeps;
  settled = c.in_ok-ran.ensures.soon.settled;
}

pub returns-clause-falls : goal.returns-clause-falls
returns-clause-falls g c =
    stepped-less g.P.Transform.rest c.args.up_ended c.args.from.now c.args.stages.now c.args.at
    c.in_ok-ran.ran.pumped c.run_at.new.from c.run_at.new.stages c.in_ok-ran.ensures.answer
    c.in_ok-ran.ensures.steps
