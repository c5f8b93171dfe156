use Rattle.ts_transform.proofs.Boundaries.{last_wait-got}
use Rattle.ts_transform.proofs.stages.last_block.Goals as goal

pub returns-in-Some : goal.returns-in-Some
returns-in-Some g c = rw (last_wait-got c.args.first.now c.args.stages.now c.in-Some.stage.now
    c.in-Some.ensures.value) c.block.ensures
