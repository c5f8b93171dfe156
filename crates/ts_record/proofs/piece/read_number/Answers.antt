use Rattle.std.proofs.Common.{inl, inr, arith}
use Rattle.ts_record.specs.Refusing.{IsNumberText}
use Rattle.ts_record.proofs.NumberTexts.{number_refused, numbers_begin}
use Rattle.ts_record.proofs.piece.read_number.Goals as goal

pub returns-then-number-eq0-clause-refused : goal.returns-then-number-eq0-clause-refused
returns-then-number-eq0-clause-refused c =
    number_refused c.args.limit (IsNumberText c.args.limit) c.args.bytes.now c.read_digits-number.result.1.now
    c.read_digits-number.result.0 c.requires.some (omega (arith, c.requires.limit))
    (numbers_begin c.args.limit) c.read_digits-number.ensures (inl c.if-number-eq0.true)

pub returns-in-None-clause-refused : goal.returns-in-None-clause-refused
returns-in-None-clause-refused c =
    number_refused c.args.limit (IsNumberText c.args.limit) c.args.bytes.now c.read_digits-number.result.1.now
    c.read_digits-number.result.0 c.requires.some (omega (arith, c.requires.limit))
    (numbers_begin c.args.limit) c.read_digits-number.ensures (inr c.in-None.ensures.none)
