-- The rule of the slots: what holds between any two steps.
use Rattle.std.specs.Prelude.{◌≡◌, ℕ, ◌+◌, ◌-◌, ◌*◌, ◌%◌, ◌<◌, ◌≤◌, List, length, slice_index, Option, Some}
use mathlib.Core.Option.{some}
use mathlib.Core.Option as maybe
use lib.ListN.{get_elem?}
use Rattle.atomic_table.specs.Table.{State}
use Rattle.ts_slot.specs.declared.view.SeatView.{SeatView}
use Rattle.ts_slot.specs.Lists.{total, Each, entries, traced}
use Rattle.ts_slot.specs.Limits.{whole_share, last_turn, worn_word}
use Rattle.ts_slot.specs.Views.{owns, nobody}

-- a group is free after n turns, or held for its turn n + 1, or worn
pub data Occupancy : Type 0 where
  free : ℕ → Occupancy
  taken : ℕ → Occupancy
  worn : Occupancy

-- What a seat knows is so. The word of a group that it holds is odd, and says the turn; what it missed was
-- odd and is no more than the word; a turn that it saw finished is, and its trace is that of the history. One
-- that is spent has nothing.
pub record ViewOk {G T : Type 0}
    (tags : List G) (words : List ℕ) (history : ℕ → ℕ → T) (v : SeatView G T) : Type 0 where
  pub about : 0 < v.share → v.tags ≡ tags
  pub held : Each (λ e. (slice_index words e.0 + 1 ≡ 2 * e.1) × (e.2 ≡ history e.0 (e.1 - 1))) v.held
  pub missed : Each (λ e. (e.1 % 2 ≡ 1) × (e.1 ≤ slice_index words e.0)) v.misses
  pub known : Each (λ e. (2 * e.1 ≤ slice_index words e.0) × (e.2 ≡ history e.0 e.1)) v.known
  pub blank : v.share ≡ 0 → v ≡ nobody

module _ {X G T : Type 0}
    (fits : G → X → Type 0) (stamp : X → ℕ) (trace : X → T) (follows : T → T → Type 0) (tags : List G) where
  -- a value stands in the slot of the group k, it fits the group's tag, and its stamp is at most n
  pub record AtHome (k n : ℕ) (home : maybe.Option (maybe.Option (Option X))) (x : X) : Type 0 where
    pub tag : G
    pub tag_is : get_elem? tags k ≡ some tag
    pub home_is : home ≡ some (some (Some x))
    pub fit : fits tag x
    pub old : stamp x ≤ n

  -- A group, by its word, by how many views hold it and how many turns of it they count, by its slot, and by
  -- the trace that stood after each of its turns
  module _ (k word held turns : ℕ) (home : maybe.Option (maybe.Option (Option X))) (history : ℕ → T) where
    abbrev pub HasOccupancy : Occupancy → Type 0
    HasOccupancy (free n) =
        (word ≡ 2 * n) × (held ≡ 0) × (turns ≡ n) × (x : X) × AtHome k n home x × (trace x ≡ history n)
    HasOccupancy (taken n) = (word ≡ 2 * n + 1) × (held ≡ 1) × (turns ≡ n + 1)
    HasOccupancy worn =
        (word ≡ worn_word) × (held ≡ 0) × (turns ≡ last_turn) × (x : X) × AtHome k last_turn home x
        × follows (trace x) (history (last_turn - 1))

    abbrev pub GroupOk : Type 0
    GroupOk = (o : Occupancy) × HasOccupancy o

  -- The rule. There is a history: the trace that stood after each turn of each group. Each group is free,
  -- held or worn; what each seat knows is so; the trace after a later turn follows that after an earlier
  -- one; the shares add up; and no number is a seat's own or free twice.
  pub record Kept (s : State (Option X) (SeatView G T)) : Type 0 where
    pub history : ℕ → ℕ → T
    pub wide : length s.words ≡ length tags
    pub deep : length s.homes ≡ length tags
    pub each_group : (k : ℕ) → k < length tags
        → GroupOk k (slice_index s.words k) (total (λ v. traced k v.held) s.views)
        (total (λ v. entries k v.turns) s.views) (get_elem? s.homes k) (history k)
    pub each_view : (id : ℕ) (v : SeatView G T) → get_elem? s.views id ≡ some v
        → ViewOk tags s.words history v
    pub each_turn : (k n m : ℕ) → n ≤ m → 2 * m ≤ slice_index s.words k → follows (history k m) (history k n)
    pub shares : total (λ v. v.share) s.views ≡ whole_share
    pub apart : (x : ℕ) → total (owns x) s.views ≤ 1
