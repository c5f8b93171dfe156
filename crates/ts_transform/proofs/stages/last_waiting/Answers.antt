use Rattle.std.proofs.Common.{length, sym, ap, ◌∙◌}
use Rattle.ts_transform.proofs.Boundaries.{last_wait-got}
use Rattle.ts_transform.proofs.stages.last_waiting.Goals as goal

pub returns-in-Some : goal.returns-in-Some
returns-in-Some g c = c.len.ensures ∙ ap length
    (sym (last_wait-got c.args.first.now c.args.stages.now c.in-Some.stage.now c.in-Some.ensures.value))
