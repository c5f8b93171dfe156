-- What changes from one state to another, so that nobody above replays entries.
use Rattle.std.specs.Prelude.{◌≡◌, ◌≢◌, ℕ, ◌+◌, ◌<◌, ◌≤◌, true, false, List, Some, None, length}
use Rattle.ts_journal.specs.declared.entry.ContKey.{ContKey}
use Rattle.ts_journal.specs.declared.entry.Event.{Event}
use Rattle.ts_journal.specs.declared.entry.Pending.{Pending}
use Rattle.ts_journal.specs.State.{State, pending_at, without, without_index, IsLive, same_key, others_of}
use Rattle.ts_group.specs.declared.action.Named.{Named}
use Rattle.ts_group.specs.Context.{AllCalls, AllPlain, role_at, without_role}

-- the turn that is held is the same
pub record StaysInTurn (old new : State) : Type 0 where
  pub held : new.held ≡ true
  pub turns : new.turns ≡ old.turns

-- an event that begins a series, under a number
abbrev pub first_event : ℕ → ContKey → Event → ℕ → ℕ → Pending
first_event number key event due period =
    record { number = number; key = key; event = event; due = due; series = number; period = period }

-- what was pending stays, and at most one event is set
pub record IsMore (old new : State) : Type 0 where
  pub stays : (n : ℕ) (p : Pending) → pending_at n old.pending ≡ Some p → pending_at n new.pending ≡ Some p
  pub next : new.next ≤ old.next + 1
  pub count : length new.pending ≤ length old.pending + 1

-- one event more is pending, under the next number
pub record HasSet (old new : State) (event : Pending) : Type 0 where
  pub number : event.number ≡ old.next
  pub there : pending_at event.number new.pending ≡ Some event
  pub others : (n : ℕ) → n ≢ event.number → pending_at n new.pending ≡ pending_at n old.pending
  pub next : new.next ≡ old.next + 1
  pub count : length new.pending ≡ length old.pending + 1
  pub more : IsMore old new
  pub plain : event.period ≡ 0 → AllPlain old.pending → AllPlain new.pending
  pub live : new.live ≡ old.live

-- the same events are pending, and the same number is next
pub record SameEvents (old new : State) : Type 0 where
  pub pending : new.pending ≡ old.pending
  pub next : new.next ≡ old.next

-- one key more is live, under a role
pub record HasMade (old new : State) (old_roles new_roles : List Named)
    (key : ContKey) (role : ℕ) : Type 0 where
  pub live : IsLive new.live key
  pub named : role_at key.index new_roles ≡ Some role
  pub others : (i : ℕ) → i ≢ key.index → role_at i new_roles ≡ role_at i old_roles
  pub was_free : role_at key.index old_roles ≡ None

-- the keys that were live are live, under their roles
pub record KeepsKeys (old new : State) (old_roles new_roles : List Named) : Type 0 where
  pub live : (key : ContKey) → IsLive old.live key → IsLive new.live key
  pub roles : (i role : ℕ) → role_at i old_roles ≡ Some role → role_at i new_roles ≡ Some role

-- a key is gone, with the events that were pending of it
pub record HasLost (old new : State) (old_roles new_roles : List Named) (key : ContKey) : Type 0 where
  pub pending : new.pending ≡ others_of key old.pending
  pub next : new.next ≡ old.next
  pub stays : (n : ℕ) (p : Pending) → pending_at n old.pending ≡ Some p → same_key p.key key ≡ false
      → pending_at n new.pending ≡ Some p
  pub from : (n : ℕ) (p : Pending) → pending_at n new.pending ≡ Some p
      → (pending_at n old.pending ≡ Some p) × (same_key p.key key ≡ false)
  pub live : new.live ≡ without_index key.index old.live
  pub roles : new_roles ≡ without_role key.index old_roles
  pub others : (i : ℕ) → i ≢ key.index → role_at i new_roles ≡ role_at i old_roles

-- the event of a number is not pending any more
pub record HasClosed (old new : State) (number : ℕ) : Type 0 where
  pub pending : new.pending ≡ without number old.pending
  pub gone : pending_at number new.pending ≡ None
  pub others : (n : ℕ) → n ≢ number → pending_at n new.pending ≡ pending_at n old.pending
  pub next : new.next ≡ old.next
  pub live : new.live ≡ old.live
  pub count : length new.pending + 1 ≡ length old.pending

-- nothing is pending that was not
pub record IsLess (old new : State) : Type 0 where
  pub from : (n : ℕ) (p : Pending) → pending_at n new.pending ≡ Some p → pending_at n old.pending ≡ Some p
  pub next : new.next ≡ old.next
  pub plain : AllPlain old.pending → AllPlain new.pending
  pub count : length new.pending ≤ length old.pending

-- an event was handled, and the next of its series set where it is periodic
pub record HasHandled (before now : State) (handled : Pending) : Type 0 where
  pub gone : pending_at handled.number now.pending ≡ None
  pub from : (n : ℕ) (p : Pending) → n < before.next → pending_at n now.pending ≡ Some p
      → pending_at n before.pending ≡ Some p
  pub stays : (n : ℕ) (p : Pending) → n ≢ handled.number → pending_at n before.pending ≡ Some p
      → pending_at n now.pending ≡ Some p
  -- of a plain event
  pub others : handled.period ≡ 0 →
      (n : ℕ) → n ≢ handled.number → pending_at n now.pending ≡ pending_at n before.pending
  pub pending : handled.period ≡ 0 → now.pending ≡ without handled.number before.pending
  pub count : handled.period ≡ 0 → length now.pending + 1 ≡ length before.pending
  pub next : handled.period ≡ 0 → now.next ≡ before.next
  -- where every event is plain
  pub plain : AllPlain before.pending → AllPlain now.pending
  pub fewer : AllPlain before.pending → length now.pending + 1 ≡ length before.pending
  -- of any event
  pub next_most : now.next ≤ before.next + 1
  pub count_most : length now.pending ≤ length before.pending
  pub live : now.live ≡ before.live

-- each direct call that waits stays one
pub record CallsStay (old new : State) : Type 0 where
  pub stay : (moment : ℕ) (ns : List ℕ) → AllCalls old moment ns → AllCalls new moment ns
