-- Pieces that are given one after the other are sound.
use Rattle.std.proofs.Common.{subst}
use Rattle.ts_link.specs.InputView.{IsSoundInput}
use Rattle.ts_link.proofs.PiecesAhead.{sound_pieces}
use Rattle.ts_link.proofs.piece_input.PieceInput.known.Goals as goal

pub returns : goal.returns
returns c = subst IsSoundInput c.self.view_is (sound_pieces c.self.inside.passed c.self.inside.next
    c.self.inside.pieces.items)
