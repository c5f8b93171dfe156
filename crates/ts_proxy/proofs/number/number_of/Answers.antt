-- A word is a number exactly where it begins as one, was read, and is within the limit.
use Rattle.std.proofs.Common.{◌<◌, ◌^◌, ap, arith, sym, ◌∙◌}
use Rattle.ts_proxy.specs.Words.{begins_number}
use Rattle.ts_proxy.proofs.Numbers.{no-begin, number-many, number-read, number-unread}
use Rattle.ts_proxy.proofs.number.number_of.Goals as goal

pub returns-then-not-begins_number-clause-number : goal.returns-then-not-begins_number-clause-number
returns-then-not-begins_number-clause-number c =
    sym (no-begin c.args.most c.args.word.now
    (ap begins_number (sym c.as_bytes.ensures.value) ∙ sym c.begins_number.ensures
    ∙ c.if-not-begins_number.true))

pub returns-in-Ok-clause-number : goal.returns-in-Ok-clause-number
returns-in-Ok-clause-number c =
    number-read c.args.most c.args.word.now c.parse.result
    (ap begins_number (sym c.as_bytes.ensures.value) ∙ sym c.begins_number.ensures
    ∙ c.if-not-begins_number.false)
    c.parse.ensures.value.0 c.in-Ok.number c.in-Ok.is c.if-number-most.true

pub returns-in_default-clause-number : goal.returns-in_default-clause-number
returns-in_default-clause-number c =
    number-many c.args.most c.args.word.now c.parse.result
    (ap begins_number (sym c.as_bytes.ensures.value) ∙ sym c.begins_number.ensures
    ∙ c.if-not-begins_number.false)
    c.parse.ensures.value.0 c.in-Ok.number c.in-Ok.is c.if-number-most.false

pub returns-in_default-2-clause-number : goal.returns-in_default-2-clause-number
returns-in_default-2-clause-number c =
    let low : c.args.most < 2 ^ 64 = omega arith in
    number-unread c.args.most c.args.word.now c.parse.result
    (ap begins_number (sym c.as_bytes.ensures.value) ∙ sym c.begins_number.ensures
    ∙ c.if-not-begins_number.false)
    c.parse.ensures.value.0 c.in_default.field-0 c.in_default.is low
