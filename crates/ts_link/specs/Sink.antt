-- What the answers of a sink say.
use Rattle.std.specs.Prelude.{ℕ, ◌≤◌, List, [], Bool, true, false, length, take, ⊤}
use Rattle.ts_link.specs.declared.sink.Wrote.{Wrote}
use Rattle.ts_link.specs.declared.sink.Wrote.TheVariants.{Took, Failed, NoMemory}

-- what of a piece a sink took
abbrev pub taken_of : Wrote → List ℕ → List ℕ
taken_of (Took n) piece = take n piece
taken_of _ piece = []

-- the number of bytes that a write took is from 1 to the piece's length
abbrev pub TakesSome : Wrote → List ℕ → Type 0
TakesSome (Took n) piece = (1 ≤ n) × (n ≤ length piece)
TakesSome _ piece = ⊤

abbrev pub is_fault : Wrote → Bool
is_fault Failed = true
is_fault _ = false

abbrev pub is_lack : Wrote → Bool
is_lack NoMemory = true
is_lack _ = false
