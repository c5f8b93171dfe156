-- What a link in memory has to give, as a list of pieces, of which a stall is one.
use Rattle.std.specs.Prelude.{ℕ, zero, suc, ◌+◌, ◌-◌, ◌++◌, min, List, [], ◌∷◌, length, take, drop}
use Rattle.ts_link.specs.declared.link.Got.{Got}
use Rattle.ts_link.specs.declared.link.Got.TheVariants as G
use Rattle.ts_link.specs.declared.piece.Piece.{Piece}
use Rattle.ts_link.specs.declared.piece.Piece.TheVariants.{Bytes, Stall}

-- all the bytes of some pieces
abbrev pub bytes_of : List Piece → List ℕ
bytes_of [] = []
bytes_of (Bytes bs ∷ ps) = bs ++ bytes_of ps
bytes_of (Stall k ∷ ps) = bytes_of ps

-- the stalls among some pieces, each with its place in their bytes, counted on from `at`
abbrev pub stalls_from : ℕ → List Piece → List (ℕ × ℕ)
stalls_from at [] = []
stalls_from at (Bytes bs ∷ ps) = stalls_from (at + length bs) ps
stalls_from at (Stall k ∷ ps) = (at, k) ∷ stalls_from at ps

-- how many reads wait at the stalls of some pieces
abbrev pub stalled_reads : List Piece → ℕ
stalled_reads [] = 0
stalled_reads (Bytes bs ∷ ps) = stalled_reads ps
stalled_reads (Stall k ∷ ps) = k + stalled_reads ps

-- the pieces from the first on that is not empty
abbrev pub from_next : List Piece → List Piece
from_next [] = []
from_next (Bytes [] ∷ ps) = from_next ps
from_next (Bytes (b ∷ bs) ∷ ps) = Bytes (b ∷ bs) ∷ ps
from_next (Stall zero ∷ ps) = from_next ps
from_next (Stall (suc k) ∷ ps) = Stall (suc k) ∷ ps

-- bytes in pieces of these lengths, and the rest as one last piece
abbrev pub cut_up : List ℕ → List ℕ → List Piece
cut_up [] bytes = Bytes bytes ∷ []
cut_up (c ∷ cs) bytes = Bytes (take c bytes) ∷ cut_up cs (drop c bytes)

-- What is there to give: all its bytes, the stalls at which it waits, both of which stay, and the pieces that
-- are ahead, of which the first is not empty.
pub record Input : Type 0 where
  pub source : List ℕ
  pub stalls : List (ℕ × ℕ)
  pub ahead : List Piece

-- what was given: the source without what is ahead
abbrev pub given_of : Input → List ℕ
given_of i = take (length i.source - length (bytes_of i.ahead)) i.source

-- what a read into so much room answers, at which nothing goes wrong: it stays within the first piece
abbrev pub next_answer : ℕ → List Piece → Got
next_answer room [] = G.End
next_answer room (Bytes bs ∷ ps) = G.Bytes (min room (length bs))
next_answer room (Stall k ∷ ps) = G.Again

-- the pieces that are ahead after it
abbrev pub next_ahead : ℕ → List Piece → List Piece
next_ahead room [] = []
next_ahead room (Bytes bs ∷ ps) = from_next (Bytes (drop room bs) ∷ ps)
next_ahead room (Stall k ∷ ps) = from_next (Stall (k - 1) ∷ ps)

-- what there is to give after it
abbrev pub after_next : Input → ℕ → Input
after_next i room = record i { ahead = next_ahead room i.ahead }
