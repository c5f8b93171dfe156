use Rattle.std.proofs.Common.{sym, ◌∙◌}
use Rattle.ts_transform.proofs.Boundaries.{last_ended-got}
use Rattle.ts_transform.proofs.stages.has_ended.Goals as goal

pub returns-in-Some : goal.returns-in-Some
returns-in-Some g c = c.has_ended.ensures ∙ sym
    (last_ended-got c.args.given c.args.stages.now c.in-Some.stage.now c.in-Some.ensures.value)
