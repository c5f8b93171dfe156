-- What the answers of a shelf say.
use Rattle.std.specs.Prelude.{◌≡◌, ℕ, ◌≤◌, ◌<◌, List, Bool, true, false, length, ⊤, Option, Some, Result, Ok, Err, IsSomeAnd}
use Rattle.ts_link.specs.declared.shelf.ShelfFault.{ShelfFault}
use Rattle.ts_link.specs.declared.shelf.ShelfFault.TheVariants.{Failed, TooLong}
use Rattle.ts_link.specs.declared.octets.Octets.{Octets}

abbrev pub is_read_fault : Result Octets ShelfFault → Bool
is_read_fault (Err Failed) = true
is_read_fault _ = false

abbrev pub is_too_long : Result Octets ShelfFault → Bool
is_too_long (Err (TooLong seen)) = true
is_too_long _ = false

-- what is read is within the limit, and a file is too long only where more than the limit was read
abbrev pub KeepsLimit : ℕ → Result Octets ShelfFault → Type 0
KeepsLimit most (Ok bytes) = length bytes ≤ most
KeepsLimit most (Err (TooLong seen)) = most < seen
KeepsLimit most _ = ⊤

-- what a read answers of a file that is told: the whole file, or too long where it has as many bytes as were
-- seen
abbrev pub ReadsFile : Option (List ℕ) → ℕ → Result Octets ShelfFault → Type 0
ReadsFile file most (Ok bytes) = file ≡ Some bytes
ReadsFile file most (Err (TooLong seen)) = IsSomeAnd file (λ bytes. seen ≤ length bytes)
ReadsFile file most _ = ⊤
