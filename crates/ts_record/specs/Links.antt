-- The two sides of a recorded transaction as links in memory.
use Rattle.std.specs.Prelude.{◌≡◌, ℕ, ◌+◌, ◌<◌, ◌≤◌, List, [], ◌∷◌, Option, Some, map}
use Rattle.ts_link.specs.Counts.{greatest}
use Rattle.ts_link.specs.Inputs.{stalled_reads}
use Rattle.ts_link.specs.InputView.{seen_pieces}
use Rattle.ts_link.specs.MemLink.{LinkState, fresh_link, look_of}
use Rattle.ts_link.specs.Numbered.{no_calls}
use Rattle.ts_link.specs.declared.piece.Piece.{Piece}
use Rattle.ts_link.specs.declared.piece.Piece.TheVariants.{Bytes}

-- pieces of bytes, with no stall between them
abbrev pub plain_pieces : List (List ℕ) → List Piece
plain_pieces pieces = map (λ bytes. Bytes bytes) pieces

-- THE SIDE that gives these pieces, with the stalls between them, and then its end. It takes all that is
-- written to it; or so many bytes, where it leaves, and each write after that fails. It was not used.
abbrev pub recorded_side : List Piece → Option ℕ → LinkState
recorded_side pieces leave =
    fresh_link (seen_pieces 0 0 pieces) greatest leave (no_calls [] []) (no_calls [] [])

-- how many reads wait at these stalls
abbrev pub stalled_in : List (ℕ × ℕ) → ℕ
stalled_in [] = 0
stalled_in (s ∷ ss) = s.1 + stalled_in ss

-- What went wrong with it, and may still go wrong, is what the recording says: no call fails or waits by its
-- number, none failed but writes once it had left, and no more waited, and are still to wait, than wait at
-- the stalls in its source.
pub record GoesAsRecorded (l : LinkState) : Type 0 where
  pub fail_reads : l.reads.fail ≡ []
  pub again_reads : l.reads.again ≡ []
  pub fail_writes : l.writes.fail ≡ []
  pub again_writes : l.writes.again ≡ []
  pub failed : 0 < l.faults → l.may_take ≡ Some 0
  pub waited : l.waits + stalled_reads l.input.ahead ≤ stalled_in l.input.stalls

-- a link that gives these bytes, and gave and took nothing yet
pub record IsNewSide (bytes : List ℕ) (l : LinkState) : Type 0 where
  pub source : (look_of l).source ≡ bytes
  pub no_given : (look_of l).given ≡ []
  pub no_taken : l.taken ≡ []
