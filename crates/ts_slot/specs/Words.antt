-- What clauses say of the slots, of a seat and of a turn.
use Rattle.std.specs.Prelude.{◌≡◌, ℕ, ◌+◌, ◌*◌, ◌%◌, ◌<◌, ◌≤◌, ◌≢◌, ◌⊎◌, List, ◌∷◌, length, Some}
use Rattle.std.specs.List.{Contains}
use mathlib.Core.Option.{some}
use lib.ListN.{get_elem?}
use Rattle.ts_journal.specs.declared.slotted.Slotted.{Ghosts}
use Rattle.ts_slot.specs.declared.view.SeatView.{SeatView}
use Rattle.ts_slot.specs.declared.seat.Seat.{Seat}
use Rattle.ts_slot.specs.declared.seat.Turn.{Turn}
use Rattle.ts_slot.specs.declared.slots.Slots.{Slots}
use Rattle.ts_slot.specs.Lists.{Each, IsIn, rest, traced, entries}
use Rattle.ts_slot.specs.Limits.{last_turn}
use Rattle.ts_slot.specs.Views.{missed, freed, worn_out, latest, IsAfter}

-- the tags of the groups, in order
abbrev pub tags_of : {X G T : Type 0} → Slots X G T → List G
tags_of slots = slots.table.shared.key.0.value.items

-- the value fits the tag of the group k
abbrev pub FitsTag : {X G : Type 0} → (G → X → Type 0) → List G → ℕ → X → Type 0
FitsTag {G = G} fits tags k x = (tag : G) × (get_elem? tags k ≡ some tag) × fits tag x

-- of the groups that are held, the group k is held no more
pub record GivesUp {T : Type 0} (k : ℕ) (old new : List (ℕ × ℕ × T)) : Type 0 where
  pub top : (turn : ℕ) (c : T) → old ≡ (k, turn, c) ∷ rest old → new ≡ rest old
  pub others : (e : ℕ × ℕ × T) → e.0 ≢ k → IsIn e old → IsIn e new
  pub count : length new + 1 ≡ length old

module _ {G T : Type 0} where
  -- the seat does not hold the group k
  abbrev pub HoldsNot : SeatView G T → ℕ → Type 0
  HoldsNot v k = traced k v.held ≡ 0

  -- the group k was won last, for this turn, and this trace was found
  abbrev pub IsTop : SeatView G T → ℕ → ℕ → T → Type 0
  IsTop v k turn c = v.held ≡ (k, turn, c) ∷ rest v.held

  -- the seat was told that the group's word is odd, which counts as a miss; it is no less than what the seat
  -- knows
  pub record Misses (k seen : ℕ) (old new : SeatView G T) : Type 0 where
    pub odd : seen % 2 ≡ 1
    pub is : new ≡ missed k seen old
    pub behind : Each (λ e. e.0 ≡ k → 2 * e.1 ≤ seen) old.known

module _ {X G T : Type 0} {d : Ghosts X G T} where
  abbrev pub view : Seat X G T d → SeatView G T
  view seat = seat.place.me.0

  abbrev pub IsSeatOf : Slots X G T → Seat X G T d → Type 0
  IsSeatOf slots seat =
      (seat.place.table_id ≡ slots.table.shared.table_id) × ((view seat).tags ≡ tags_of slots)

  -- the seat got this turn, and has not left it
  abbrev pub IsHeld : SeatView G T → Turn X G T d → Type 0
  IsHeld v turn = IsIn (turn.group, turn.number, d.trace turn.found.value) v.held

  -- a turn may leave its value: it fits the tag, its stamp is as found or this turn's number, and its trace
  -- follows that found
  pub record MayLeave (tags : List G) (turn : Turn X G T d) : Type 0 where
    pub fit : FitsTag d.fits tags turn.group turn.boxed.value
    pub stamped : (d.stamp turn.boxed.value ≡ d.stamp turn.found.value)
        ⊎ (d.stamp turn.boxed.value ≡ turn.number)
    pub later : d.follows (d.trace turn.boxed.value) (d.trace turn.found.value)

  -- a turn that the value records and did not record when it was found is this turn, of this seat
  abbrev pub MarksOwn : Turn X G T d → ℕ → Type 0
  MarksOwn turn seat = (mark : ℕ × ℕ) → Contains (d.marks turn.boxed.value) mark
      → Contains (d.marks turn.found.value) mark ⊎ (mark ≡ (turn.number, seat))

  -- the group is free after this turn, and the seat knows it so
  pub record LeavesFree (turn : Turn X G T d) (old new : SeatView G T) : Type 0 where
    pub number : turn.number < last_turn
    pub is : new ≡ freed turn.group turn.number (d.trace turn.boxed.value) old
    pub knows : latest turn.group new.known ≡ Some (turn.number, d.trace turn.boxed.value)

  -- the turn was the last one that a group can have, and nobody enters it again
  pub record LeavesWorn (turn : Turn X G T d) (old new : SeatView G T) : Type 0 where
    pub number : turn.number ≡ last_turn
    pub is : new ≡ worn_out turn.group old

  -- The value x of the group k at the end: it fits the tag, its stamp is at most the group's number of turns,
  -- which the seat counts, and its trace comes after all that the seat knows.
  pub record IsLast (slots : Slots X G T) (seat : Seat X G T d) (k : ℕ) (x : X) : Type 0 where
    pub fit : FitsTag d.fits (tags_of slots) k x
    pub stamped : d.stamp x ≤ entries k (view seat).turns
    pub later : IsAfter d.follows k (entries k (view seat).turns + 1) (d.trace x) (view seat).known

  abbrev pub AreLast : Slots X G T → Seat X G T d → List X → Type 0
  AreLast slots seat xs = (k : ℕ) (x : X) → get_elem? xs k ≡ some x → IsLast slots seat k x
