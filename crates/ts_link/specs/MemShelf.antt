-- What contracts see of a shelf in memory, and exactly what its calls do.
use Rattle.std.specs.Prelude.{◌≡◌, ℕ, ◌<◌, ◌≤◌, List, length, false, Some, None, IsSomeAnd, Result, Ok, Err}
use Rattle.ts_link.specs.Counts.{one_more, one_more_if}
use Rattle.ts_link.specs.Files.{file_in}
use Rattle.ts_link.specs.Numbered.{is_listed}
use Rattle.ts_link.specs.Shelf.{is_read_fault, is_too_long}
use Rattle.ts_link.specs.declared.shelf.ShelfFault.{ShelfFault}
use Rattle.ts_link.specs.declared.shelf.ShelfFault.TheVariants.{Failed, TooLong, NoMemory}
use Rattle.ts_link.specs.declared.octets.Octets.{Octets}

-- the files in order, the numbers of the read calls that fail, the number of read calls, and the counts
pub record ShelfState : Type 0 where
  pub files : List (List ℕ × List ℕ)
  pub failing : List ℕ
  pub calls : ℕ
  pub faults : ℕ
  pub longs : ℕ

-- a shelf in memory fails exactly at the calls of its list and where it has no file of the name; a file that
-- is too long was seen whole
abbrev pub ReadsAt : ShelfState → List ℕ → ℕ → Result Octets ShelfFault → Type 0
ReadsAt old name most (Ok bytes) =
    (is_listed old.calls old.failing ≡ false) × (file_in old.files name ≡ Some bytes) × (length bytes ≤ most)
ReadsAt old name most (Err Failed) = is_listed old.calls old.failing ≡ false → file_in old.files name ≡ None
ReadsAt old name most (Err (TooLong seen)) =
    (is_listed old.calls old.failing ≡ false) × IsSomeAnd (file_in old.files name)
    (λ bytes. (seen ≡ length bytes) × (most < length bytes))
ReadsAt old name most (Err NoMemory) =
    (is_listed old.calls old.failing ≡ false) × IsSomeAnd (file_in old.files name)
    (λ bytes. length bytes ≤ most)

-- the shelf after a read that was answered so
abbrev pub after_shelf_read : ShelfState → Result Octets ShelfFault → ShelfState
after_shelf_read s answer = record s {
  calls = one_more s.calls;
  faults = one_more_if (is_read_fault answer) s.faults;
  longs = one_more_if (is_too_long answer) s.longs;
}
