-- Where the readers of a buffer stand.
use Rattle.std.specs.Prelude.{ℕ, ◌+◌, ◌-◌, ◌≤◌, ◌==◌, min, List, [], ◌∷◌, Option, Some, None, Bool, true, false, slice_get, slice_set, unwrap_or, drop, IfSome, All}
use Rattle.std.specs.Option.{option_map}
use Rattle.ts_iobuf.specs.declared.readers.ReaderId.{ReaderId}
use Rattle.ts_iobuf.specs.declared.readers.Slot.{Slot}

abbrev pub place_if : Bool → Option ℕ → Option ℕ
place_if true place = place
place_if false place = None

-- the place that a slot gives to a reader of this generation
abbrev pub place_at : Option Slot → ℕ → Option ℕ
place_at None generation = None
place_at (Some s) generation = place_if (s.generation == generation) s.place

-- the place of a reader, if it is live
abbrev pub place_in : List Slot → ReaderId → Option ℕ
place_in slots r = place_at (slice_get slots r.index) r.generation

-- the slots after a reader went n further
abbrev pub moved : List Slot → ReaderId → ℕ → List Slot
moved slots r n = slice_set slots r.index (record
    { generation = r.generation; place = Some (unwrap_or (place_in slots r) 0 + n) })

abbrev pub least_of : Option ℕ → ℕ → ℕ
least_of None most = most
least_of (Some p) most = min p most

-- the least place of a live reader, or `most` if that is less
abbrev pub least_place : List Slot → ℕ → ℕ
least_place [] most = most
least_place (s ∷ ss) most = least_place ss (least_of s.place most)

-- a slot after the first n bytes were dropped
abbrev pub lowered : ℕ → Slot → Slot
lowered n s = record { generation = s.generation; place = option_map (λ p. p - n) s.place }

-- every place is at most `most`
abbrev pub StandsWithin : ℕ → List Slot → Type 0
StandsWithin most ss = All (λ s. IfSome s.place (λ p. p ≤ most)) ss

-- what is readable from a place
abbrev pub bytes_from : Option ℕ → List ℕ → List ℕ
bytes_from None bytes = []
bytes_from (Some place) bytes = drop place bytes
