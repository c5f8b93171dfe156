use Rattle.std.proofs.Common.{◌≡◌, ◌-◌, true, subst, sym, ◌∙◌}
use Rattle.ts_transform.specs.Flow.{StaysSoon, done_at}
use Rattle.ts_transform.proofs.Moving.{cuts-done}
use Rattle.ts_transform.proofs.Soon.{early_soon, later_soon}
use Rattle.ts_transform.proofs.pump.+run_at.Goals as goal

pub returns-then-ran-clause-soon : goal.returns-then-ran-clause-soon
returns-then-ran-clause-soon g t c =
    let s = c.in-Some.first.now in
    let others = c.in-Some.others.now in
    let done : done_at others (c.args.at - 1) ≡ true = (cuts-done c.in_ok-ran.ran.pumped
    (done_at others (c.args.at - 1)) (sym c.in_ok-ran.ensures.cuts ∙ c.if-ran.true)).1 in
    rw c.in-Some.ensures.cases.0 (early_soon g.P.Transform.soon c.args.up_ended c.args.from.now s others
    c.run_at.new.stages c.take.new.self c.run_at.new.from (c.args.at - 1) done
    (subst (λ b. StaysSoon g.P.Transform.soon b s.after others c.run_at.new.from c.run_at.new.stages)
    c.has_ended.ensures c.in_ok-ran.ensures.soon))

pub returns-else-ran-clause-soon : goal.returns-else-ran-clause-soon
returns-else-ran-clause-soon g t c =
    let s = c.in-Some.first.now in
    let others = c.in-Some.others.now in
    rw c.in-Some.ensures.cases.0 (later_soon g.P.Transform.soon c.args.up_ended c.args.from.now s others
    c.run_at.new.stages c.run_at.new.from
    (subst (λ b. StaysSoon g.P.Transform.soon b s.after others c.run_at.new.from c.run_at.new.stages)
    c.has_ended.ensures c.in_ok-ran.ensures.soon))
