-- The pieces that are passed over are empty.
use Rattle.std.proofs.Common.{◌≡◌, ℕ, List, ◌∷◌, length, drop, ◌-◌}
use Rattle.ts_link.specs.Inputs.{from_next, cut_up}
use Rattle.ts_link.proofs.cut_input.begin_piece.Given as goal

abbrev pub invariant-loop-piece : goal.invariant-loop-piece
invariant-loop-piece l = (rest : List ℕ) → from_next (cut_up (l.piece ∷ drop l.next l.cuts) rest)
    ≡ from_next (cut_up (l.initial.piece ∷ drop l.initial.next l.cuts) rest)

abbrev pub decreases-loop-piece : goal.decreases-loop-piece
decreases-loop-piece l = length l.cuts - l.next
