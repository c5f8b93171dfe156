-- The piece that is not passed is in front.
use Rattle.std.proofs.Common.{sym, ◌∙◌}
use Rattle.ts_link.proofs.PiecesAhead.{front_at}
use Rattle.ts_link.proofs.piece_input.begin_piece.Goals as goal

pub returns-else-is_passed-clause-front : goal.returns-else-is_passed-clause-front
returns-else-is_passed-clause-front c =
    front_at c.args.pieces.now c.loop-next.next c.loop-next.passed c.index-pieces-next.result
    c.loop-next-test.true c.index-pieces-next.is
    (sym c.is_passed.ensures ∙ c.if-is_passed.false)
