use Rattle.std.proofs.Common.{◌≡◌, ◌++◌, length, drop, OnOk, subst, ◌∙◌, arith}
use Rattle.httparse.specs.Ascii.{crlf_bytes}
use Rattle.ts_iobuf.specs.Buffer.{GrowsBy}
use Rattle.ts_wire.specs.Frames.{hex}
use Rattle.ts_wire.proofs.HexLemmas.{four_digits_are}
use Rattle.ts_wire.proofs.frames.write_chunk.Goals as goal

pub returns-clause-grows : goal.returns-clause-grows
returns-clause-grows c =
    let piece = c.args.piece.now in
    let size : c.split_at.result.1.now ≡ hex (length piece) =
    c.split_at.ensures.back ∙ (λ i. drop (c.leading_zeros.ensures i) (c.four_digits-digits.ensures i))
    ∙ four_digits_are (length piece) (omega arith) in
    subst (λ t. OnOk c.write_parts.result (GrowsBy c.args.out.now c.write_parts.new.self
    (t ++ (crlf_bytes ++ (piece ++ crlf_bytes))))) size c.write_parts.ensures.grows
