use Rattle.std.proofs.Common.{◌≡◌, IsTrue, false, sym, subst, true, ◌∙◌}
use Rattle.ts_transform.specs.Flow.{MustPump}
use Rattle.ts_transform.proofs.Resting.{not_rests, rests_both}
use Rattle.ts_transform.proofs.stages.+all_rest.Goals as goal

pub returns-then-not-must_pump : goal.returns-then-not-must_pump
returns-then-not-must_pump g t c =
    let s = c.in-Some.first.now in
    let others = c.in-Some.others.now in
    let up = c.args.up_ended in
    let from = c.args.from.now in
    rw c.in-Some.ensures.cases.0 (rests_both up from s others (IsTrue c.all_rest.result)
    (λ must. let wrong : false ≡ true = sym c.if-not-must_pump.true
    ∙ c.must_pump.ensures.1 (subst (λ ss. MustPump up from ss 0) (sym c.in-Some.ensures.cases.0) must) in cc)
    (rw (← c.has_ended.ensures) c.all_rest.ensures))

pub returns-else-not-must_pump : goal.returns-else-not-must_pump
returns-else-not-must_pump g t c =
    not_rests c.args.up_ended c.args.from.now c.args.stages.now c.must_pump.result c.if-not-must_pump.false
    (c.must_pump.ensures.0 c.if-not-must_pump.false)
