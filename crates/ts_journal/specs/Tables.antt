-- The state that tables keep, what can be added to them without memory, and where an event or a key stands.
use Rattle.std.specs.Prelude.{◌≡◌, ℕ, ◌-◌, ◌<◌, ◌≤◌, List, length, max, min, remove, slice_get, slice_set}
use Rattle.std.specs.Vec.{vec_capacity}
use Rattle.ts_journal.specs.declared.tables.Tables.{Tables}
use Rattle.ts_journal.specs.declared.entry.ContKey.{ContKey}
use Rattle.ts_journal.specs.declared.entry.Pending.{Pending}
use Rattle.ts_journal.specs.declared.entry.Entry.{Entry}
use Rattle.ts_journal.specs.declared.entry.Entry.TheVariants.{Set}
use Rattle.ts_journal.specs.State.{State, pending_at, without, without_index, with_key}
use Rattle.ts_journal.specs.Log.{set_places, key_places}

abbrev pub state_in : Tables → State
state_in t = record {
  turns = t.turns;
  held = t.held;
  next = t.next;
  pending = t.pending.items;
  latest = t.latest;
  live = t.live.items;
  newest = t.newest.items;
  set_count = t.set_count;
  handled_count = t.handled_count;
  cancelled_count = t.cancelled_count;
  dropped_count = t.dropped_count;
}

-- so many pending events can be added
abbrev pub set_room_of : Tables → ℕ
set_room_of t = vec_capacity t.pending - length t.pending.items

-- so many keys can be added
abbrev pub key_room_of : Tables → ℕ
key_room_of t =
    min (vec_capacity t.live - length t.live.items) (vec_capacity t.newest - length t.newest.items)

-- the lists of these tables fit into the memory that a base has for its own
pub record CanHold (base tables : Tables) : Type 0 where
  pub pending : length tables.pending.items ≤ vec_capacity base.pending
  pub live : length tables.live.items ≤ vec_capacity base.live
  pub newest : length tables.newest.items ≤ vec_capacity base.newest

-- so many pending events can be added to these tables, which a base can hold then too
abbrev pub set_room_over : Tables → Tables → ℕ
set_room_over base t = min (set_room_of t) (vec_capacity base.pending - length t.pending.items)

-- so many keys can be added to these tables, which a base can hold then too
abbrev pub key_room_over : Tables → Tables → ℕ
key_room_over base t = min (key_room_of t)
    (min (vec_capacity base.live - length t.live.items) (vec_capacity base.newest - length t.newest.items))

-- tables over a base have the places that an entry takes
pub record HasPlaces (base tables : Tables) (entry : Entry) : Type 0 where
  pub sets : set_places entry ≤ set_room_over base tables
  pub keys : key_places entry ≤ key_room_over base tables

-- the lists of these tables have as much memory as they had, or more
pub record KeepsMemory (old new : Tables) : Type 0 where
  pub pending : vec_capacity old.pending ≤ vec_capacity new.pending
  pub live : vec_capacity old.live ≤ vec_capacity new.live
  pub newest : vec_capacity old.newest ≤ vec_capacity new.newest

-- the lists of these tables have room for their own items, or for those of others, and for no more
pub record IsFitted (others fitted : Tables) : Type 0 where
  pub pending : vec_capacity fitted.pending ≡ max (length fitted.pending.items) (length others.pending.items)
  pub live : vec_capacity fitted.live ≡ max (length fitted.live.items) (length others.live.items)
  pub newest : vec_capacity fitted.newest ≡ max (length fitted.newest.items) (length others.newest.items)

-- the pending event of a number stands at this place
pub record IsPlaceOf (number : ℕ) (ps : List Pending) (i : ℕ) : Type 0 where
  pub below : i < length ps
  pub there : slice_get ps i ≡ pending_at number ps
  pub removed : remove ps i ≡ without number ps

-- the key of an index stands at this place
pub record IsPlaceAt (index : ℕ) (ks : List ContKey) (i : ℕ) : Type 0 where
  pub below : i < length ks
  pub removed : remove ks i ≡ without_index index ks
  pub put : (key : ContKey) → key.index ≡ index → slice_set ks i key ≡ with_key key ks

-- the entry with which an event was set
abbrev pub entry_of : Pending → Entry
entry_of p = Set p.number p.key p.event p.due p.series p.period
