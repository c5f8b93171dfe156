-- What a call on a journal leaves, put together from what it leaves of the state.
use Rattle.std.proofs.Common.{◌≡◌, ℕ, ◌<◌, true, List, [], ◌∷◌, ◌++◌, Some, None, Ok, arith}
use Rattle.ts_journal.specs.declared.entry.ContKey.{ContKey}
use Rattle.ts_journal.specs.declared.entry.Entry.TheVariants.{Made, Cancelled, Destroyed}
use Rattle.ts_journal.specs.declared.entry.TheConstants.{MOST_KEYS}
use Rattle.ts_journal.specs.State.{State, IsLive, generation_at, without_index, first_in_series, numbers_of, others_of}
use Rattle.ts_journal.specs.Machine.{IsValid}
use Rattle.ts_journal.specs.Log.{Log, Extends}
use Rattle.ts_group.specs.declared.action.Named.{Named}
use Rattle.ts_group.specs.declared.action.Cancel.TheVariants as cancel
use Rattle.ts_group.specs.declared.action.Destroy.TheVariants as destroy
use Rattle.ts_group.specs.Context.{CanUse, keys_of, without_role}
use Rattle.ts_group.specs.Entries.{drops}
use Rattle.ts_group.specs.Changes.{HasClosed, SameEvents}
use Rattle.ts_group.specs.Acts.{Cancels, Makes, Destroys, IsFreeKey}
use Rattle.ts_group.proofs.Facts.{less_closed}
use Rattle.ts_group.proofs.Roles.{has_made, keeps_made, has_lost, less_lost}

-- one event is cancelled
pub cancels_one : (a b : Log) (series n : ℕ) → first_in_series series a.state.pending ≡ Some n
    → Extends a b (Cancelled n ∷ []) → HasClosed a.state b.state n → b.state.held ≡ true
    → Cancels a b cancel.Cancelled series
cancels_one a b series n found by closed held = record {
  cancelled = λ e. (n, found, by, closed);
  done = λ e. absurd (cc);
  turn = held;
  keys = closed.live;
  less = less_closed a.state b.state n closed;
}

-- one key is made
pub makes_one : (a b : Log) (rs qs : List Named) (r : Named) → IsLive b.state.live r.key
    → generation_at r.key.index a.state.live ≡ None → keys_of rs ≡ a.state.live
    → Extends a b (Made r.key ∷ []) → b.state.live ≡ a.state.live ++ r.key ∷ [] → qs ≡ rs ++ r ∷ []
    → SameEvents a.state b.state → b.state.held ≡ true
    → ((i : ℕ) → i < r.key.index → CanUse a.state i → ⊥) → Makes a b rs qs (Ok r.key) r.role
makes_one a b rs qs r live free keys by more roles events held least = record {
  made = (by, roles);
  least = least;
  full = λ e. absurd (cc);
  room = λ e. absurd (cc);
  err = tt;
  turn = held;
  live = live;
  key = has_made a.state b.state rs qs r live free keys roles;
  keys = keeps_made a.state b.state rs qs r more roles;
  events = events;
}

-- an index can be used where a key can be made
pub can_use : (s : State) (key : ContKey) → IsFreeKey s key → (i : ℕ) × (i < MOST_KEYS) × CanUse s i
can_use s key is = let next = is.next in let fits = is.fits in (key.index, is.index, (is.free, omega arith))

-- one key is destroyed
pub destroys_one : (a b : Log) (rs qs : List Named) (key : ContKey) → IsValid a.state
    → IsLive a.state.live key
    → Extends a b (drops (numbers_of key a.state.pending) ++ Destroyed key ∷ [])
    → b.state.pending ≡ others_of key a.state.pending → b.state.next ≡ a.state.next
    → b.state.live ≡ without_index key.index a.state.live → b.state.held ≡ true
    → qs ≡ without_role key.index rs → Destroys a b rs qs destroy.Gone key
destroys_one a b rs qs key v alive by pending next live held roles = record {
  gone = λ e. (roles, by);
  live = λ e. alive;
  dead = λ e. absurd (cc);
  turn = held;
  lost = λ e. has_lost a.state b.state rs qs key v pending next live roles;
  less = less_lost a.state b.state key v pending next;
}
