-- What holds of a recorded side as it is made.
use Rattle.std.proofs.Common.{◌≡◌, List, ℕ, ◌+◌, [], ◌∷◌, length, Option, refl}
use Rattle.std.proofs.Common.{ap, sym, subst, ◌∙◌, arith}
use Rattle.ts_link.specs.Inputs.{stalled_reads, stalls_from, from_next}
use Rattle.ts_link.specs.InputView.{begun}
use Rattle.ts_link.specs.MemLink.{LinkState}
use Rattle.ts_link.specs.declared.piece.Piece.{Piece}
use Rattle.ts_link.specs.declared.piece.Piece.TheVariants.{Bytes, Stall}
use Rattle.ts_link.proofs.PiecesAhead.{stalls-from_next}
use Rattle.ts_record.specs.Links.{GoesAsRecorded, recorded_side, stalled_in}

-- at the stalls of pieces as many reads wait as at the pieces
stalled_all : (at : ℕ) (ps : List Piece) → stalled_in (stalls_from at ps) ≡ stalled_reads ps
stalled_all at [] = refl
stalled_all at (Bytes bs ∷ ps) = stalled_all (at + length bs) ps
stalled_all at (Stall k ∷ ps) = ap (λ n. k + n) (stalled_all at ps)

-- and at pieces that were not begun as many
stalled_begun : (ps : List Piece) → stalled_reads (begun 0 ps) ≡ stalled_reads ps
stalled_begun [] = refl
stalled_begun (Bytes bs ∷ ps) = refl
stalled_begun (Stall k ∷ ps) = omega arith

-- a new side did nothing yet
pub goes_as_made : (pieces : List Piece) (leave : Option ℕ) (l : LinkState)
    → l ≡ recorded_side pieces leave → GoesAsRecorded l
goes_as_made pieces leave l is =
    let ahead : stalled_reads (from_next (begun 0 pieces)) ≡ stalled_in (stalls_from 0 pieces) =
    stalls-from_next (begun 0 pieces) ∙ stalled_begun pieces ∙ sym (stalled_all 0 pieces) in
    subst GoesAsRecorded (sym is) (record {
      fail_reads = refl;
      again_reads = refl;
      fail_writes = refl;
      again_writes = refl;
      failed = λ some. absurd (omega (arith, some));
      waited = omega (arith, ahead);
    })
