-- What is read of a file.
use Rattle.std.specs.Prelude.{◌≡◌, ℕ, ◌≤◌, ◌<◌, List, length, ⊤, Option, Some, None, Result, Ok, Err, vec_len, vec_items}
use Rattle.std.specs.declared.vec.Vec.{Vec}
use Rattle.ts_link.specs.declared.shelf.ShelfFault.{ShelfFault}
use Rattle.ts_link.specs.declared.shelf.ShelfFault.TheVariants.{TooLong}

-- the whole file within the limit, or more than the limit was seen
abbrev pub KeepsMost : {Z : Type 0} → ℕ → Result (Vec ℕ Z) ShelfFault → Type 0
KeepsMost most (Ok bytes) = vec_len bytes ≤ most
KeepsMost most (Err (TooLong seen)) = most < seen
KeepsMost most (Err _) = ⊤

-- what was read are all the bytes that a file had, or the file had at least so many as were seen
abbrev pub IsAllOf : {Z : Type 0} → Option (List ℕ) → Result (Vec ℕ Z) ShelfFault → Type 0
IsAllOf None read = ⊤
IsAllOf (Some all) (Ok bytes) = vec_items bytes ≡ all
IsAllOf (Some all) (Err (TooLong seen)) = seen ≤ length all
IsAllOf (Some all) (Err _) = ⊤

-- the bytes that an open file has are known, and are those of this file
abbrev pub IsFileOf : Option (List ℕ) → Option (List ℕ) → Type 0
IsFileOf None file = ⊥
IsFileOf (Some all) file = file ≡ Some all
