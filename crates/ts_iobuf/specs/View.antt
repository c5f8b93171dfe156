-- How the fields of a buffer are seen.
use Rattle.std.specs.Prelude.{ℕ, ◌≤◌, List, length, take}
use Rattle.ts_iobuf.specs.declared.readers.Slot.{Slot}
use Rattle.ts_iobuf.specs.declared.buffer.IoBuffer.TheInside.{Inside}
use Rattle.ts_iobuf.specs.Buffer.{Buffer}
use Rattle.ts_iobuf.specs.Places.{StandsWithin}
use Rattle.ts_iobuf.specs.Stored.{Contents, joined}

-- the buffer of this store, of whose free bytes the first `room` are lent
abbrev pub shown : Contents → ℕ → List Slot → ℕ → Buffer
shown store room readers mark = record {
  bytes = joined store.blocks;
  readers = readers;
  room = take room store.behind;
  blocks = store.blocks;
  mark = mark;
}

abbrev pub seen : Inside → Buffer
seen s = shown s.store s.room s.slots.items s.mark

pub record Fits (s : Inside) : Type 0 where
  pub room : s.room ≤ length s.store.behind
  pub places : StandsWithin (length (joined s.store.blocks)) s.slots.items
