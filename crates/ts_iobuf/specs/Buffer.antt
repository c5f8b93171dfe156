-- What a contract sees of an IO buffer (the Developer's Guide's chapter "IO Buffers": a buffer, its readers,
-- each at a place of its own, and blocks that are read without copying).
use Rattle.std.specs.Prelude.{◌≡◌, ℕ, ◌-◌, ◌≤◌, ◌++◌, List, [], ◌∷◌, length, take, drop, map, Bool, IsTrue, Option, Some, None, is_some, if◌then◌else◌, nat_lt}
use Rattle.ts_iobuf.specs.declared.readers.ReaderId.{ReaderId}
use Rattle.ts_iobuf.specs.declared.readers.Slot.{Slot}
use Rattle.ts_iobuf.specs.Places.{place_in, bytes_from, moved, least_place, lowered}

-- the bytes that were not dropped, the readers' places among them, the room that was handed out last, the
-- blocks that the bytes stand in, and the water mark
pub record Buffer : Type 0 where
  pub bytes : List ℕ
  pub readers : List Slot
  pub room : List ℕ
  pub blocks : List (List ℕ)
  pub mark : ℕ

abbrev pub is_reader : Buffer → ReaderId → Bool
is_reader b r = is_some (place_in b.readers r)

-- what a reader can read: the bytes from its place on
abbrev pub readable : Buffer → ReaderId → List ℕ
readable b r = bytes_from (place_in b.readers r) b.bytes

-- the blocks after the first n bytes
abbrev pub blocks_after : ℕ → List (List ℕ) → List (List ℕ)
blocks_after n [] = []
blocks_after n (x ∷ xs) = if nat_lt n (length x) then drop n x ∷ xs else blocks_after (n - length x) xs

abbrev pub blocks_from : Option ℕ → List (List ℕ) → List (List ℕ)
blocks_from None blocks = []
blocks_from (Some place) blocks = blocks_after place blocks

-- the blocks that a reader can read
abbrev pub blocks_of : Buffer → ReaderId → List (List ℕ)
blocks_of b r = blocks_from (place_in b.readers r) b.blocks

-- the one block of a list, if it is not empty
abbrev pub one_block : List ℕ → List (List ℕ)
one_block [] = []
one_block (b ∷ bs) = (b ∷ bs) ∷ []

-- the new buffer has more bytes behind those of the old one, for each reader, and all else but the room is as
-- it was
pub record GrowsBy (old new : Buffer) (more : List ℕ) : Type 0 where
  pub bytes : new.bytes ≡ old.bytes ++ more
  pub readers : new.readers ≡ old.readers
  pub mark : new.mark ≡ old.mark
  pub read : (q : ReaderId) → IsTrue (is_reader old q) → readable new q ≡ readable old q ++ more

-- how many bytes no reader stands before, once a reader passed over n
abbrev pub passed_by_all : Buffer → ReaderId → ℕ → ℕ
passed_by_all b r n = least_place (moved b.readers r n) (length b.bytes)

-- a reader passed over n bytes, and then those were dropped that no reader stands before
pub record Consumes (old new : Buffer) (r : ReaderId) (n : ℕ) : Type 0 where
  pub bytes : new.bytes ≡ drop (passed_by_all old r n) old.bytes
  pub readers : new.readers ≡ map (lowered (passed_by_all old r n)) (moved old.readers r n)
  pub room : new.room ≡ old.room
  pub mark : new.mark ≡ old.mark

-- what a reader can read from an offset on, or the first `most` bytes of that where there are more
abbrev pub part_of : Buffer → ReaderId → ℕ → ℕ → List ℕ
part_of b r offset most = take most (drop offset (readable b r))

-- enough can be read for the water mark, and at least a byte
pub record ReachesMark (b : Buffer) (r : ReaderId) : Type 0 where
  pub some : 1 ≤ length (readable b r)
  pub marked : b.mark ≤ length (readable b r)

-- a buffer of these bytes that nobody reads
abbrev pub unread : List ℕ → Buffer
unread bytes = record { bytes = bytes; readers = []; room = []; blocks = one_block bytes; mark = 0 }

-- the bytes that a buffer got behind those that it had
abbrev pub appended : Buffer → Buffer → List ℕ
appended old new = drop (length old.bytes) new.bytes
