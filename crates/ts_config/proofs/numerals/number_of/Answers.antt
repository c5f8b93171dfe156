-- A value that is too large does not fall by more digits.
use Rattle.std.proofs.Common.{ℕ, List, ◌+◌, ◌-◌, ◌*◌, drop, get_or, arith, sym, ◌∙◌}
use Rattle.ts_config.proofs.Digits.{digit_step, value_grows, too_large}
use Rattle.ts_config.proofs.numerals.number_of.Goals as goal

pub returns-then-value-from-clause-number : goal.returns-then-value-from-clause-number
returns-then-value-from-clause-number c =
    let word : List ℕ = c.args.word.now in
    let i : ℕ = c.loop-digit.digit-index in
    let v : ℕ = c.loop-digit.value in
    let next : ℕ = 10 * v + (get_or word i 0 - 48) in
    let step = digit_step word i v c.loop-digit-test.true (sym c.is_ascii_digit.ensures.value
    ∙ c.if-not-is_ascii_digit.false) in
    let grown = value_grows next (drop (i + 1) word) in
    sym (too_large c.args.most word (omega (arith, step.1, grown, c.loop-digit.invariant.value)))
