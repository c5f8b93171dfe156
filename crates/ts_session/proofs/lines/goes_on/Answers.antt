-- One byte more of a line is held against a text.
use Rattle.std.proofs.Common.{arith, get_or, refl, sym, true, ◌∙◌}
use Rattle.std.specs.Prelude.{◌==◌}
use Rattle.ts_session.proofs.LineFronts.{agrees_off, agrees_on}
use Rattle.ts_session.proofs.lines.goes_on.Goals as goal

pub returns-then-not-so_far : goal.returns-then-not-so_far
returns-then-not-so_far c line at_is was =
    sym (agrees_off c.args.text.now line c.args.b (sym was ∙ c.if-not-so_far.true))

pub returns-then-at-text : goal.returns-then-at-text
returns-then-at-text c line at_is was =
    agrees_on c.args.text.now line c.args.b c.args.at true true c.requires at_is
    (sym c.if-not-so_far.false ∙ was) (λ le. refl) (λ lt. absurd (omega (arith, lt, c.if-at-text.true)))

pub returns : goal.returns
returns c line at_is was =
    agrees_on c.args.text.now line c.args.b c.args.at true (get_or c.args.text.now c.args.at 0 == c.args.b)
    c.requires at_is (sym c.if-not-so_far.false ∙ was)
    (λ le. absurd (omega (arith, le, c.if-at-text.false))) (λ lt. refl)
