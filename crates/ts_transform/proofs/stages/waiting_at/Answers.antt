use Rattle.std.proofs.Common.{◌≡◌, ◌-◌, ◌<◌, suc, length, arith, sym, ap, ◌∙◌}
use Rattle.ts_transform.specs.Flow.{wait_at}
use Rattle.ts_transform.proofs.Boundaries.{wait_at-place}
use Rattle.ts_transform.proofs.stages.waiting_at.Goals as goal

-- The boundary behind a stage has the number of its place plus 1.
pub returns-else-boundary-eq0 : goal.returns-else-boundary-eq0
returns-else-boundary-eq0 g c =
    let number : suc (c.args.boundary - 1) ≡ c.args.boundary = omega (arith, c.if-boundary-eq0.false) in
    let below : c.args.boundary - 1 < length c.args.stages.now = omega (arith, c.if-boundary-eq0.false) in
    c.len-else-boundary-eq0.ensures
    ∙ ap length (sym (wait_at-place c.args.first.now c.args.stages.now (c.args.boundary - 1)
    c.index-stages-boundary.result below))
    ∙ ap (λ k. length (wait_at c.args.first.now c.args.stages.now k)) number
