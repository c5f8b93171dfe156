-- The pieces that are passed over are empty.
use Rattle.std.proofs.Common.{◌≡◌, length, drop, ◌-◌}
use Rattle.ts_link.specs.Inputs.{from_next}
use Rattle.ts_link.specs.InputView.{begun}
use Rattle.ts_link.proofs.piece_input.begin_piece.Given as goal

abbrev pub invariant-loop-next : goal.invariant-loop-next
invariant-loop-next l = from_next (begun l.passed (drop l.next l.pieces)) ≡ from_next
    (begun l.initial.passed (drop l.initial.next l.pieces))

abbrev pub decreases-loop-next : goal.decreases-loop-next
decreases-loop-next l = length l.pieces - l.next
