use Rattle.std.proofs.Common.{inl, inr, arith}
use Rattle.ts_lists.proofs.Fronts.{front_and_rest}
use Rattle.ts_record.specs.Refusing.{IsPieceText}
use Rattle.ts_record.specs.declared.recording.TheConstants.{MOST_PIECE}
use Rattle.ts_record.proofs.NumberTexts.{number_refused}
use Rattle.ts_record.proofs.PieceTexts.{pieces_begin, numbered, short_refused, feed_refused}
use Rattle.ts_record.proofs.piece.read_piece.Goals as goal

pub returns-then-length-eq0-clause-refused : goal.returns-then-length-eq0-clause-refused
returns-then-length-eq0-clause-refused c =
    number_refused MOST_PIECE IsPieceText c.args.bytes.now c.read_digits-length.result.1.now
    c.read_digits-length.result.0 (omega arith) (omega arith) pieces_begin c.read_digits-length.ensures
    (inl c.if-length-eq0.true)

pub returns-in_default-clause-refused : goal.returns-in_default-clause-refused
returns-in_default-clause-refused c =
    number_refused MOST_PIECE IsPieceText c.args.bytes.now c.read_digits-length.result.1.now
    c.read_digits-length.result.0 (omega arith) (omega arith) pieces_begin c.read_digits-length.ensures
    (inr c.in_default.ensures.none)

pub returns-then-rest-length-clause-refused : goal.returns-then-rest-length-clause-refused
returns-then-rest-length-clause-refused c =
    short_refused c.args.bytes.now c.in-Some.rest.now c.read_digits-length.result.0
    (numbered c.args.bytes.now c.read_digits-length.result.1.now c.in-Some.rest.now
    c.read_digits-length.result.0 c.read_digits-length.ensures (omega arith) c.in-Some.ensures.some)
    (omega arith)

pub returns-in-None-clause-refused : goal.returns-in-None-clause-refused
returns-in-None-clause-refused c =
    feed_refused c.args.bytes.now c.in-Some.rest.now c.split_at.result.0.now c.split_at.result.1.now
    c.read_digits-length.result.0
    (numbered c.args.bytes.now c.read_digits-length.result.1.now c.in-Some.rest.now
    c.read_digits-length.result.0 c.read_digits-length.ensures (omega arith) c.in-Some.ensures.some)
    (front_and_rest c.in-Some.rest.now c.split_at.result.0.now c.split_at.result.1.now
    c.read_digits-length.result.0
    c.split_at.ensures.front c.split_at.ensures.back) c.split_at.ensures.front_len c.in-None.ensures.none
