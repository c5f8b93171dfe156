-- A list that is given in pieces is sound.
use Rattle.std.proofs.Common.{drop, subst}
use Rattle.ts_link.specs.InputView.{IsSoundInput}
use Rattle.ts_link.proofs.PiecesAhead.{sound_cut}
use Rattle.ts_link.proofs.cut_input.CutInput.known.Goals as goal

pub returns : goal.returns
returns c =
    let s = c.self.inside in
    subst IsSoundInput c.self.view_is (sound_cut s.piece (drop s.next s.cuts.items) s.at s.bytes)
