use Rattle.std.proofs.Common.{◌≡◌, [], true, sym, ap, ◌∙◌}
use Rattle.ts_transform.specs.Flow.{last_ended, last_wait}
use Rattle.ts_transform.proofs.Flowing.{flow-finished}
use Rattle.ts_transform.proofs.chain.Chain.is_finished.Goals as goal

pub returns-in-None-clause-flow : goal.returns-in-None-clause-flow
returns-in-None-clause-flow g c =
    let s = c.self.inside in
    let none : last_wait s.first s.stages.items ≡ [] = ap (last_wait s.first) (sym c.as_slice.ensures.value) ∙
    c.in-None.ensures in
    rw (← c.self.view_is) (λ done z last.
    let ended : last_ended s.given s.stages.items ≡ true =
    ap (last_ended s.given) (sym c.as_slice-in-None.ensures.value) ∙ sym c.has_ended.ensures ∙ done in
    flow-finished g.P.Transform.rest
    (record { first = s.first; stages = s.stages.items; given = s.given }) ended none z last)
