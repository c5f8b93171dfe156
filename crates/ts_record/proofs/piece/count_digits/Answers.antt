use Rattle.std.proofs.Common.{sym, ◌∙◌, inl, inr, arith, get_or, ◌<◌, ◌^◌}
use Rattle.ts_record.proofs.Counting.{no_digit, no_number, stop_at, counted, all_counted, more_digits}
use Rattle.ts_record.proofs.piece.count_digits.Goals as goal

pub returns-then-not-is_ascii_digit-clause-digits :
    goal.returns-then-not-is_ascii_digit-clause-digits
returns-then-not-is_ascii_digit-clause-digits c =
    let below : c.args.limit < 2 ^ 64 = omega (arith, c.requires.limit) in
    counted c.args.limit c.args.bytes.now c.loop-count.value c.loop-count.count below (omega arith)
    c.loop-count.invariant
    (stop_at c.args.limit c.args.bytes.now c.loop-count.value c.loop-count.count (omega arith)
    (λ digit. absurd (no_digit (get_or c.args.bytes.now c.loop-count.count 0)
    (sym c.is_ascii_digit.ensures.value ∙ c.if-not-is_ascii_digit.true) digit)))

pub returns-then-longer-eq0-clause-digits : goal.returns-then-longer-eq0-clause-digits
returns-then-longer-eq0-clause-digits c =
    let below : c.args.limit < 2 ^ 64 = omega (arith, c.requires.limit) in
    counted c.args.limit c.args.bytes.now c.loop-count.value c.loop-count.count below (omega arith)
    c.loop-count.invariant
    (stop_at c.args.limit c.args.bytes.now c.loop-count.value c.loop-count.count (omega arith)
    (no_number c.args.limit c.loop-count.value (get_or c.args.bytes.now c.loop-count.count 0) c.from.result
    c.from.ensures
    (elim c.then-longer-eq0.either [ inl small ↦ inl small | inr large ↦ inr large.1 ])))

pub loop-count-preserved : goal.loop-count-preserved
loop-count-preserved c =
    more_digits c.args.limit c.args.bytes.now c.loop-count.value c.loop-count.count c.from.result
    (omega arith) (sym c.is_ascii_digit.ensures.value ∙ c.if-not-is_ascii_digit.false) c.from.ensures
    c.if-longer-eq0.false
    c.if-longer-limit.false c.loop-count.invariant

pub returns-clause-digits : goal.returns-clause-digits
returns-clause-digits c =
    let below : c.args.limit < 2 ^ 64 = omega (arith, c.requires.limit) in
    all_counted c.args.limit c.args.bytes.now c.loop-count.value c.loop-count.count below (omega arith)
    c.loop-count.invariant
