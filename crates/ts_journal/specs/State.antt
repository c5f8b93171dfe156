-- The state of a mutex group: what its continuations and their events are at one moment. The Developer's
-- Guide of Traffic Server speaks of continuations, their mutex, and the actions that schedule events for
-- them.
use Rattle.std.specs.Prelude.{◌≡◌, ℕ, ◌==◌, ◌&&◌, Bool, false, List, [], ◌∷◌, Option, Some, None, if◌then◌else◌}
use Rattle.std.specs.Option.{option_map}
use Rattle.ts_journal.specs.declared.entry.ContKey.{ContKey}
use Rattle.ts_journal.specs.declared.entry.Pending.{Pending}
use Rattle.ts_journal.specs.declared.entry.Latest.{Latest}

-- The turn that was recorded last and whether it is still held; the number of the next event; the events that
-- are pending, by rising number; the series of the event handled last; the keys that are live, and the newest
-- key of each index, in the order in which they were made; and four counts.
pub record State : Type 0 where
  pub turns : ℕ
  pub held : Bool
  pub next : ℕ
  pub pending : List Pending
  pub latest : Option Latest
  pub live : List ContKey
  pub newest : List ContKey
  pub set_count : ℕ
  pub handled_count : ℕ
  pub cancelled_count : ℕ
  pub dropped_count : ℕ

-- where a group begins that has made so many turns elsewhere, and nothing else
abbrev pub fresh : ℕ → State
fresh turns = record {
  turns = turns;
  held = false;
  next = 1;
  pending = [];
  latest = None;
  live = [];
  newest = [];
  set_count = 0;
  handled_count = 0;
  cancelled_count = 0;
  dropped_count = 0;
}

-- where such a group begins that has one key, which is live
abbrev pub fresh_with : ℕ → ContKey → State
fresh_with turns key = record (fresh turns) { live = key ∷ []; newest = key ∷ [] }

-- the pending event of a number
abbrev pub pending_at : ℕ → List Pending → Option Pending
pending_at n [] = None
pending_at n (p ∷ ps) = if p.number == n then Some p else pending_at n ps

-- the pending events but that of the number
abbrev pub without : ℕ → List Pending → List Pending
without n [] = []
without n (p ∷ ps) = if p.number == n then ps else p ∷ without n ps

-- the generation of the key of an index in a list of keys
abbrev pub generation_at : ℕ → List ContKey → Option ℕ
generation_at i [] = None
generation_at i (k ∷ ks) = if k.index == i then Some k.generation else generation_at i ks

-- the keys but that of the index
abbrev pub without_index : ℕ → List ContKey → List ContKey
without_index i [] = []
without_index i (k ∷ ks) = if k.index == i then ks else k ∷ without_index i ks

-- the keys with this one at its index
abbrev pub with_key : ContKey → List ContKey → List ContKey
with_key key [] = key ∷ []
with_key key (k ∷ ks) = if k.index == key.index then key ∷ ks else k ∷ with_key key ks

-- the key is live: its continuation was made and not destroyed since
abbrev pub IsLive : List ContKey → ContKey → Type 0
IsLive live key = generation_at key.index live ≡ Some key.generation

-- the two are one key
abbrev pub same_key : ContKey → ContKey → Bool
same_key a b = (a.index == b.index) && (a.generation == b.generation)

-- the numbers of the pending events of a key, which rise
abbrev pub numbers_of : ContKey → List Pending → List ℕ
numbers_of key [] = []
numbers_of key (p ∷ ps) = if same_key p.key key then p.number ∷ numbers_of key ps else numbers_of key ps

-- the pending events of other keys
abbrev pub others_of : ContKey → List Pending → List Pending
others_of key [] = []
others_of key (p ∷ ps) = if same_key p.key key then others_of key ps else p ∷ others_of key ps

-- the number of the first pending event of a series
abbrev pub first_in_series : ℕ → List Pending → Option ℕ
first_in_series s [] = None
first_in_series s (p ∷ ps) = if p.series == s then Some p.number else first_in_series s ps

-- the series of an event
abbrev pub latest_of : Pending → Latest
latest_of p = record { key = p.key; series = p.series; period = p.period }

-- the series of the pending event of a number
abbrev pub latest_at : ℕ → List Pending → Option Latest
latest_at n ps = option_map latest_of (pending_at n ps)
