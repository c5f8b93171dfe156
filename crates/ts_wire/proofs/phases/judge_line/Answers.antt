use Rattle.std.proofs.Common.{subst, sym}
use Rattle.ts_wire.specs.Judged.{JudgesLine}
use Rattle.ts_wire.proofs.LineLemmas.{line_of, judged_size}
use Rattle.ts_wire.proofs.phases.judge_line.Goals as goal

pub returns-in-Ok-Complete : goal.returns-in-Ok-Complete
returns-in-Ok-Complete c =
    let whole = rw c.in-Ok-Complete.field-0-is at c.in-Ok-Complete.ensures.complete in
    let size = c.in-Ok-Complete.size in
    subst (λ p. JudgesLine c.args.text.now c.args.total p c.in-Ok-Complete.len) (sym c.phase_after.ensures)
    (judged_size c.args.text.now c.args.total c.in-Ok-Complete.len size c.requires.total
    (line_of c.args.text.now c.in-Ok-Complete.len size whole.0 c.requires.short whole.1))
