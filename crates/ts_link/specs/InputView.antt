-- How the fields of a memory link's input are seen, and what holds of what is seen.
use Rattle.std.specs.Prelude.{◌≡◌, ℕ, zero, suc, ◌-◌, ◌++◌, List, [], ◌∷◌, length, take, drop, Bool, nat_le, true, ⊤}
use Rattle.ts_link.specs.Inputs.{Input, bytes_of, given_of, stalls_from, from_next, cut_up}
use Rattle.ts_link.specs.Stalls.{stands_at, reads_beyond}
use Rattle.ts_link.specs.declared.piece.Piece.{Piece}
use Rattle.ts_link.specs.declared.piece.Piece.TheVariants.{Bytes, Stall}

-- the bytes of the piece that was begun, or where it has none and no other is cut, all of them
abbrev pub front_cut : ℕ → List ℕ → List ℕ
front_cut zero bytes = bytes
front_cut (suc n) bytes = take (suc n) bytes

-- the pieces of which the next n bytes are in the first one, and the next ones in pieces of these lengths
abbrev pub cut_ahead : ℕ → List ℕ → List ℕ → List Piece
cut_ahead n cuts rest = from_next (cut_up (n ∷ cuts) rest)

-- a list of bytes of which the next n are in the piece that was begun, and the next ones in pieces of these
-- lengths
abbrev pub seen_cut : ℕ → List ℕ → List ℕ → List ℕ → Input
seen_cut n cuts rest bytes = record { source = bytes; stalls = []; ahead = cut_ahead n cuts rest }

-- pieces without the first n bytes, or reads that wait, of the first one
abbrev pub begun : ℕ → List Piece → List Piece
begun n [] = []
begun n (Bytes bs ∷ ps) = Bytes (drop n bs) ∷ ps
begun n (Stall k ∷ ps) = Stall (k - n) ∷ ps

-- the pieces from an index on, without n bytes or reads of the first one
abbrev pub pieces_ahead : ℕ → ℕ → List Piece → List Piece
pieces_ahead n next pieces = from_next (begun n (drop next pieces))

-- pieces of which those from an index on are ahead, without n bytes or reads of the first one
abbrev pub seen_pieces : ℕ → ℕ → List Piece → Input
seen_pieces n next pieces = record {
  source = bytes_of pieces;
  stalls = stalls_from 0 pieces;
  ahead = pieces_ahead n next pieces;
}

-- there is no piece, or the first one is not empty
abbrev pub IsFront : List Piece → Type 0
IsFront [] = ⊤
IsFront (Bytes [] ∷ ps) = ⊥
IsFront (Bytes (b ∷ bs) ∷ ps) = ⊤
IsFront (Stall zero ∷ ps) = ⊥
IsFront (Stall (suc k) ∷ ps) = ⊤

-- of all these stalls those that stand at this place or beyond it are the ones of the pieces ahead of it
pub record HasAhead (stalls : List (ℕ × ℕ)) (place : ℕ) (ahead : List Piece) : Type 0 where
  pub here : stands_at place (stalls_from place ahead) ≡ true → stands_at place stalls ≡ true
  pub beyond : reads_beyond place stalls ≡ reads_beyond place (stalls_from place ahead)

-- what was given and what is ahead are the source, the first piece is not empty, and the stalls ahead are
-- those of the source that were not passed
pub record IsSoundInput (i : Input) : Type 0 where
  pub whole : given_of i ++ bytes_of i.ahead ≡ i.source
  pub front : IsFront i.ahead
  pub stalls : HasAhead i.stalls (length (given_of i)) i.ahead

-- whether so many bytes, or reads that wait, are all that a piece has
abbrev pub is_passed : Piece → ℕ → Bool
is_passed (Bytes bs) n = nat_le (length bs) n
is_passed (Stall k) n = nat_le k n
