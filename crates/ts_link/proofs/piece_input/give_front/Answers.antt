-- A read takes its bytes, or one read that waits, from the piece in front.
use Rattle.std.proofs.Common.{◌≡◌, ◌≤◌, ◌<◌, ℕ, List, drop, take, length, sym, ap, ◌∙◌, arith}
use Rattle.ts_link.specs.Inputs.{bytes_of}
use Rattle.ts_link.proofs.PiecesAhead.{bytes_at, stall_at}
use Rattle.ts_link.proofs.piece_input.give_front.Goals as goal

pub overflow_add-passed : goal.overflow_add-passed
overflow_add-passed c =
    let less : c.begin_piece.new.passed < c.in-Stall.reads =
    stall_at c.args.pieces.now c.begin_piece.new.next c.begin_piece.new.passed c.index-pieces-next.result
    c.in-Stall.reads
    c.if-next-pieces.false c.index-pieces-next.is c.in-Stall.is c.begin_piece.ensures.front in
    omega arith

pub returns-in-Bytes-clause-bytes : goal.returns-in-Bytes-clause-bytes
returns-in-Bytes-clause-bytes c =
    let ps = c.args.pieces.now in
    let passed : ℕ = c.begin_piece.new.passed in
    let n : ℕ = c.copy_front-count.result in
    let bs : List ℕ = c.in-Bytes.bytes in
    let rest : c.split_at.result.1.now ≡ drop passed bs = c.split_at.ensures.back ∙ ap (drop passed)
    c.bytes.ensures in
    let long : length c.split_at.result.1.now ≡ length (drop passed bs) = ap length rest in
    let within : n ≤ length (drop passed bs) = omega (arith, c.copy_front-count.ensures.count) in
    c.copy_front-count.ensures.front ∙ ap (take n) rest
    ∙ sym (bytes_at ps c.begin_piece.new.next passed c.index-pieces-next.result bs n c.if-next-pieces.false
    c.index-pieces-next.is c.in-Bytes.is within)
    ∙ ap (λ qs. take n (bytes_of qs)) c.begin_piece.ensures.same
