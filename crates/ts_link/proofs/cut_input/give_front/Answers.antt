-- A read takes its bytes from the front of the piece that was begun.
use Rattle.std.proofs.Common.{◌≡◌, ◌≤◌, ◌<◌, ℕ, List, [], ◌∷◌, drop, take, length, sym, ap, ◌∙◌, arith, true-eqb, false-eqb}
use Rattle.std.proofs.lemmas.List.{nil_from_length, drop-drop, length-drop}
use Rattle.ts_link.specs.Inputs.{from_next, cut_up, next_answer, next_ahead}
use Rattle.ts_link.specs.InputView.{front_cut}
use Rattle.ts_link.proofs.PiecesAhead.{cut_end, cut_moves, front_cut-within, take-front_cut}
use Rattle.ts_link.proofs.cut_input.give_front.Goals as goal

-- where no byte is in front, no piece is left
none_left : (c : goal.Then-is_empty)
    → from_next (cut_up (c.begin_piece.new.piece ∷ drop c.begin_piece.new.next c.args.cuts.now)
    (drop c.args.at.now c.args.bytes.now)) ≡ []
none_left c =
    let rest : List ℕ = drop c.args.at.now c.args.bytes.now in
    let zero : length c.front_of-front.result.now ≡ 0 = true-eqb _ _
    (sym c.if-is_empty.true ∙ c.is_empty.ensures) in
    let none : front_cut c.begin_piece.new.piece rest ≡ [] = sym c.front_of-front.ensures ∙ nil_from_length
    c.front_of-front.result.now zero in
    cut_end c.begin_piece.new.piece (drop c.begin_piece.new.next c.args.cuts.now) rest none

pub returns-then-is_empty-clause-answer : goal.returns-then-is_empty-clause-answer
returns-then-is_empty-clause-answer c =
    let rest : List ℕ = drop c.args.at.now c.args.bytes.now in
    ap (next_answer (length c.args.into.now)) (sym (none_left c) ∙ c.begin_piece.ensures.same rest)

pub returns-then-is_empty-clause-ahead : goal.returns-then-is_empty-clause-ahead
returns-then-is_empty-clause-ahead c =
    let rest : List ℕ = drop c.args.at.now c.args.bytes.now in
    none_left c ∙ ap (next_ahead (length c.args.into.now))
    (sym (none_left c) ∙ c.begin_piece.ensures.same rest)

pub returns-clause-ahead : goal.returns-clause-ahead
returns-clause-ahead c =
    let rest : List ℕ = drop c.args.at.now c.args.bytes.now in
    let piece : ℕ = c.begin_piece.new.piece in
    let cuts : List ℕ = drop c.begin_piece.new.next c.args.cuts.now in
    let room : ℕ = length c.args.into.now in
    let n : ℕ = c.copy_front-count.result in
    let same : length (front_cut piece rest) ≡ length c.front_of-front.result.now = ap length
    (sym c.front_of-front.ensures) in
    let other : length c.front_of-front.result.now ≡ 0
    → ⊥ = false-eqb _ _ (sym c.if-is_empty.false ∙ c.is_empty.ensures) in
    let some : 0 < length (front_cut piece rest) = omega arith in
    let moves = cut_moves piece cuts rest room n c.begin_piece.ensures.begun some
    (omega (arith, c.copy_front-count.ensures.count)) in
    rw (
      c.saturating_sub.ensures,
      ← drop-drop n c.args.at.now c.args.bytes.now,
      ← c.begin_piece.ensures.same
          rest,
    ) moves

pub returns-clause-bytes : goal.returns-clause-bytes
returns-clause-bytes c =
    let rest : List ℕ = drop c.args.at.now c.args.bytes.now in
    let same : length (front_cut c.begin_piece.new.piece rest) ≡ length c.front_of-front.result.now = ap
    length (sym c.front_of-front.ensures) in
    let within : c.copy_front-count.result ≤ length (front_cut c.begin_piece.new.piece rest) = omega
    (arith, c.copy_front-count.ensures.count) in
    c.copy_front-count.ensures.front ∙ ap (take c.copy_front-count.result) c.front_of-front.ensures
    ∙ take-front_cut c.copy_front-count.result c.begin_piece.new.piece rest within

pub returns-clause-within : goal.returns-clause-within
returns-clause-within c =
    let rest : List ℕ = drop c.args.at.now c.args.bytes.now in
    let same : length (front_cut c.begin_piece.new.piece rest) ≡ length c.front_of-front.result.now = ap
    length (sym c.front_of-front.ensures) in
    omega (
      arith,
      front_cut-within c.begin_piece.new.piece rest,
      length-drop c.args.at.now c.args.bytes.now,
      c.copy_front-count.ensures.count,
    )
