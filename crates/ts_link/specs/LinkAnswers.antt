-- What the answers of a link say.
use Rattle.std.specs.Prelude.{◌≡◌, ℕ, ◌≤◌, List, [], take, Bool, true, false, ⊤}
use Rattle.ts_link.specs.Counts.{one_more}
use Rattle.ts_link.specs.declared.link.Got.{Got}
use Rattle.ts_link.specs.declared.link.Got.TheVariants as G
use Rattle.ts_link.specs.declared.link.Put.{Put}
use Rattle.ts_link.specs.declared.link.Put.TheVariants as P

abbrev pub got_failed : Got → Bool
got_failed G.Failed = true
got_failed _ = false

abbrev pub got_again : Got → Bool
got_again G.Again = true
got_again _ = false

-- how many bytes a read put in place
abbrev pub count_got : Got → ℕ
count_got (G.Bytes n) = n
count_got _ = 0

-- so many bytes of the front of a list
abbrev pub got_bytes : Got → List ℕ → List ℕ
got_bytes answer bytes = take (count_got answer) bytes

-- the room is filled from 1 byte on
abbrev pub FillsSome : Got → ℕ → Type 0
FillsSome (G.Bytes n) room = (1 ≤ n) × (n ≤ room)
FillsSome _ room = ⊤

-- the end comes only where nothing is left
abbrev pub EndsWell : Got → List ℕ → Type 0
EndsWell G.End left = left ≡ []
EndsWell _ left = ⊤

abbrev pub put_failed : Put → Bool
put_failed P.Failed = true
put_failed _ = false

abbrev pub put_again : Put → Bool
put_again P.Again = true
put_again _ = false

-- how many bytes a write took
abbrev pub count_put : Put → ℕ
count_put (P.Took n) = n
count_put _ = 0

-- some of the piece is taken
abbrev pub PutsSome : Put → ℕ → Type 0
PutsSome (P.Took n) piece = (1 ≤ n) × (n ≤ piece)
PutsSome _ piece = ⊤

-- the number of writes after one: want of memory is as if it had not been made
abbrev pub writes_after : Put → ℕ → ℕ
writes_after P.NoMemory writes = writes
writes_after _ writes = one_more writes
