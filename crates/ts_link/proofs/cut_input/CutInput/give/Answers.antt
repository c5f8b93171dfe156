-- A list that is given in pieces is sound, and its bytes are those of its pieces.
use Rattle.std.proofs.Common.{◌≡◌, List, ℕ, ◌∷◌, drop, take, ap, subst, sym, ◌∙◌}
use Rattle.ts_link.specs.Inputs.{bytes_of, cut_up}
use Rattle.ts_link.specs.InputView.{IsSoundInput}
use Rattle.ts_link.specs.LinkAnswers.{count_got}
use Rattle.ts_link.specs.declared.piece.Piece.{Piece}
use Rattle.ts_link.proofs.PiecesAhead.{bytes-cut_up, bytes-from_next, sound_cut}
use Rattle.ts_link.proofs.cut_input.CutInput.give.Goals as goal

pub returns-clause-sound : goal.returns-clause-sound
returns-clause-sound c =
    let s = c.self.inside in
    subst IsSoundInput c.self.view_is (sound_cut s.piece (drop s.next s.cuts.items) s.at s.bytes)

pub returns-clause-bytes : goal.returns-clause-bytes
returns-clause-bytes c =
    let s = c.self.inside in
    let rest : List ℕ = drop s.at s.bytes in
    let pieces : List Piece = cut_up (s.piece ∷ drop s.next s.cuts.items) rest in
    let left : bytes_of c.args.self.now.ahead ≡ rest =
    ap (λ i. bytes_of i.ahead) (sym c.self.view_is) ∙ bytes-from_next pieces ∙ bytes-cut_up
    (s.piece ∷ drop s.next s.cuts.items) rest in
    let given : take (count_got c.give_front.result) c.give_front.new.into ≡ take
    (count_got c.give_front.result) (drop s.at c.bytes.result.now) = c.give_front.ensures.bytes in
    given ∙ ap (λ bs. take (count_got c.give_front.result) (drop s.at bs)) c.bytes.ensures ∙ ap
    (take (count_got c.give_front.result)) (sym left)
