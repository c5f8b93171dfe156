use Rattle.ts_transform.proofs.Flowing.{flow_from-taken}
use Rattle.ts_transform.proofs.stages.+take_last.Goals as goal

pub returns-in-None-clause-flow : goal.returns-in-None-clause-flow
returns-in-None-clause-flow g t c =
    flow_from-taken g.P.Transform.rest c.args.stages.now c.args.first.now c.take.new.self c.args.n
    c.in-None.ensures.cases c.take.ensures
