-- How a drop line writes: it looks for its byte in whole blocks, and copies the runs between.
use Rattle.std.specs.Prelude.{◌≡◌, ◌≢◌, ◌↔◌, ℕ, ◌<◌, ◌≤◌, List, length, take, slice_index}
use Rattle.std.specs.Int.{bit_at}
use Rattle.ts_config.specs.Bodies.{without_byte}

-- how many bytes are searched at once
abbrev pub block_len : ℕ
block_len = 64

-- bit k is set exactly where the byte stands at place k of the block
abbrev pub ArePlaces : (byte : ℕ) (block : List ℕ) (places : ℕ) → Type 0
ArePlaces byte block places =
    (k : ℕ) → (bit_at places k ≡ 1) ↔ ((k < length block) × (slice_index block k ≡ byte))

-- the byte does not stand from `from` up to `until`
abbrev pub IsFreeOf : (byte : ℕ) (input : List ℕ) (from until : ℕ) → Type 0
IsFreeOf byte input from until = (k : ℕ) → from ≤ k → k < until → slice_index input k ≢ byte

-- up to `start` all is looked at: what comes before `done`, less the byte, is the filled front of the room,
-- and from there
-- on comes a run that stays and is not copied yet
pub record IsUpTo (byte : ℕ) (input room : List ℕ) (done filled start : ℕ) : Type 0 where
  pub order : done ≤ start
  pub within : filled ≤ done
  pub bytes : take filled room ≡ without_byte byte (take done input)
  pub free : IsFreeOf byte input done start
