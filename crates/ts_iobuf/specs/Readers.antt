-- How the readers of a buffer come and go.
use Rattle.std.specs.Prelude.{◌≡◌, ◌≢◌, ℕ, ◌<◌, ◌≤◌, List, Option, Some, None, slice_get}
use Rattle.ts_iobuf.specs.declared.readers.TheConstants.{LAST_GENERATION}
use Rattle.ts_iobuf.specs.declared.readers.ReaderId.{ReaderId}
use Rattle.ts_iobuf.specs.declared.readers.Slot.{Slot}
use Rattle.ts_iobuf.specs.Places.{place_in}

abbrev pub generation_of : Option Slot → ℕ
generation_of None = 0
generation_of (Some s) = s.generation

-- the generation in which an index was used last, or 0
abbrev pub last_used : List Slot → ℕ → ℕ
last_used slots i = generation_of (slice_get slots i)

-- The readers have one more, under a name that was not used. No index goes back to an earlier generation, so
-- a name is given once.
pub record OpensReader (old new : List Slot) (r : ReaderId) : Type 0 where
  pub fresh : place_in old r ≡ None
  pub newer : last_used old r.index < r.generation
  pub others : (q : ReaderId) → q ≢ r → place_in new q ≡ place_in old q
  pub used : (i : ℕ) → last_used old i ≤ last_used new i

-- the readers have one less
pub record ClosesReader (old new : List Slot) (r : ReaderId) : Type 0 where
  pub gone : place_in new r ≡ None
  pub others : (q : ReaderId) → q ≢ r → place_in new q ≡ place_in old q
  pub used : (i : ℕ) → last_used new i ≡ last_used old i

-- no reader uses the slot, and it has a generation left
pub record IsFreeSlot (s : Slot) : Type 0 where
  pub place : s.place ≡ None
  pub generation : s.generation < LAST_GENERATION
