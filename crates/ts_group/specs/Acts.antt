-- What each call on a journal answers and leaves, said once for the journal, a handler's calls and the group.
use Rattle.std.specs.Prelude.{◌≡◌, ◌≢◌, ℕ, ◌+◌, ◌<◌, ◌≤◌, true, List, [], ◌∷◌, ◌++◌, Some, None, length, unwrap_or, Result, Ok, Err, IfOk, OnErr}
use Rattle.ts_journal.specs.declared.entry.TheConstants.{MOST_KEYS, GREATEST}
use Rattle.ts_journal.specs.declared.entry.ContKey.{ContKey}
use Rattle.ts_journal.specs.declared.entry.Event.{Event}
use Rattle.ts_journal.specs.declared.entry.Pending.{Pending}
use Rattle.ts_journal.specs.declared.entry.Entry.TheVariants.{Took, Gave, Made, Set, Handled, Cancelled, Destroyed}
use Rattle.ts_journal.specs.State.{State, IsLive, generation_at, pending_at, numbers_of, first_in_series, others_of}
use Rattle.ts_journal.specs.Machine.{after}
use Rattle.ts_journal.specs.Log.{Log, Extends, GoesOn, IsSameLog}
use Rattle.ts_group.specs.declared.action.Action.{Action}
use Rattle.ts_group.specs.declared.action.Named.{Named}
use Rattle.ts_group.specs.declared.action.MakeFault.{MakeFault}
use Rattle.ts_group.specs.declared.action.MakeFault.TheVariants.{TableFull}
use Rattle.ts_group.specs.declared.action.MakeFault.TheVariants as make_fault
use Rattle.ts_group.specs.declared.action.SetFault.{SetFault}
use Rattle.ts_group.specs.declared.action.SetFault.TheVariants.{Dead, Spent}
use Rattle.ts_group.specs.declared.action.Destroy.{Destroy}
use Rattle.ts_group.specs.declared.action.Destroy.TheVariants as destroy
use Rattle.ts_group.specs.declared.action.Cancel.{Cancel}
use Rattle.ts_group.specs.declared.action.Cancel.TheVariants as cancel
use Rattle.ts_group.specs.Context.{Context, CanUse, AllPlain, own_key, without_role}
use Rattle.ts_group.specs.Entries.{drops, renewal, asking_entries}
use Rattle.ts_group.specs.Slot.{stored_of}
use Rattle.ts_group.specs.Changes.{StaysInTurn, IsMore, SameEvents, HasMade, KeepsKeys, HasLost, HasClosed, IsLess, HasHandled, first_event}

-- an event is set
pub record Sets (old new : Log) (result : Result Action SetFault)
    (key : ContKey) (event : Event) (due period : ℕ) : Type 0 where
  -- one entry, under the next number, which begins the series
  pub ok : IfOk result (λ a. (a.series ≡ old.state.next)
      × Extends old new (Set old.state.next key event due old.state.next period ∷ []))
  pub live : (result ≢ Err Dead) → IsLive old.state.live key
  pub dead : result ≡ Err Dead → IsLive old.state.live key → ⊥
  pub spent : result ≡ Err Spent → GREATEST ≤ old.state.next
  pub unspent : (result ≢ Err Dead) → (result ≢ Err Spent) → old.state.next < GREATEST
  pub err : OnErr result (IsSameLog old new)
  -- what a handler needs to know of the state
  pub turn : new.state.held ≡ true
  pub keys : new.state.live ≡ old.state.live
  pub there : IfOk result (λ a.
      pending_at a.series new.state.pending ≡ Some (first_event a.series key event due period))
  pub others : IfOk result (λ a.
      (n : ℕ) → n ≢ a.series → pending_at n new.state.pending ≡ pending_at n old.state.pending)
  pub count : IfOk result (λ a. (new.state.next ≡ old.state.next + 1)
      × (length new.state.pending ≡ length old.state.pending + 1))
  pub more : IsMore old.state new.state
  pub plain : period ≡ 0 → AllPlain old.state.pending → AllPlain new.state.pending

-- the direct calls that wait, where one more was asked for
abbrev pub Queues : Result Action SetFault → List ℕ → List ℕ → Type 0
Queues (Ok a) old_calls new_calls = new_calls ≡ old_calls ++ a.series ∷ []
Queues (Err e) old_calls new_calls = new_calls ≡ old_calls

-- the pending event of a series is cancelled
pub record Cancels (old new : Log) (result : Cancel) (series : ℕ) : Type 0 where
  pub cancelled : result ≡ cancel.Cancelled → (n : ℕ) × (first_in_series series old.state.pending ≡ Some n)
      × Extends old new (Cancelled n ∷ []) × HasClosed old.state new.state n
  pub done : result ≡ cancel.Done → (first_in_series series old.state.pending ≡ None) × IsSameLog old new
  pub turn : new.state.held ≡ true
  pub keys : new.state.live ≡ old.state.live
  pub less : IsLess old.state new.state

-- A key that can be made: its index is not live, and its generation is the next one of that index.
pub record IsFreeKey (s : State) (key : ContKey) : Type 0 where
  pub index : key.index < MOST_KEYS
  pub free : generation_at key.index s.live ≡ None
  pub next : key.generation ≡ unwrap_or (generation_at key.index s.newest) 0 + 1
  pub fits : key.generation ≤ GREATEST

-- a key is made, under the least index that can be used
pub record Makes (old new : Log) (old_roles new_roles : List Named)
    (result : Result ContKey MakeFault) (role : ℕ) : Type 0 where
  pub made : IfOk result (λ key. Extends old new (Made key ∷ [])
      × (new_roles ≡ old_roles ++ record { key = key; role = role } ∷ []))
  pub least : IfOk result (λ key. (i : ℕ) → i < key.index → CanUse old.state i → ⊥)
  pub full : result ≡ Err TableFull → (i : ℕ) → i < MOST_KEYS → CanUse old.state i → ⊥
  pub room : result ≡ Err make_fault.NoMemory → (i : ℕ) × (i < MOST_KEYS) × CanUse old.state i
  pub err : OnErr result (IsSameLog old new × (new_roles ≡ old_roles))
  -- what a handler needs to know of the state
  pub turn : new.state.held ≡ true
  pub live : IfOk result (IsLive new.state.live)
  pub key : IfOk result (λ key. HasMade old.state new.state old_roles new_roles key role)
  pub keys : KeepsKeys old.state new.state old_roles new_roles
  pub events : SameEvents old.state new.state

-- a key is destroyed, with its pending events, in the order of their numbers, and its role
pub record Destroys (old new : Log) (old_roles new_roles : List Named)
    (result : Destroy) (key : ContKey) : Type 0 where
  pub gone : result ≡ destroy.Gone → (new_roles ≡ without_role key.index old_roles)
      × Extends old new (drops (numbers_of key old.state.pending) ++ Destroyed key ∷ [])
  pub live : result ≡ destroy.Gone → IsLive old.state.live key
  pub dead : result ≡ destroy.Dead →
      (IsLive old.state.live key → ⊥) × IsSameLog old new × (new_roles ≡ old_roles)
  -- what a handler needs to know of the state
  pub turn : new.state.held ≡ true
  pub lost : result ≡ destroy.Gone → HasLost old.state new.state old_roles new_roles key
  pub less : IsLess old.state new.state

-- the pending events of a key are dropped, in the order of their numbers
pub record Drops (old new : Log) (key : ContKey) : Type 0 where
  pub by : Extends old new (drops (numbers_of key old.state.pending))
  pub none : numbers_of key new.state.pending ≡ []
  pub others : new.state.pending ≡ others_of key old.state.pending
  pub next : new.state.next ≡ old.state.next
  pub live : new.state.live ≡ old.state.live
  pub held : new.state.held ≡ true

-- a turn begins, at a moment
pub record BeginsTurn (old new : Context) (turn seat moment : ℕ) : Type 0 where
  pub by : Extends old.log new.log (Took turn seat ∷ [])
  pub state : new.log.state ≡ after old.log.state (Took turn seat)
  pub at_moment : new.moment ≡ moment
  pub calls : new.calls ≡ []

-- the turn is given back, and the journal folded where it stores many entries then
pub record GivesTurn (old new : Context) : Type 0 where
  pub by : GoesOn old.log new.log (Gave old.log.state.turns ∷ [])
  pub entries : new.log.entries ≡ stored_of (old.log.entries ++ Gave old.log.state.turns ∷ [])
  pub state : new.log.state ≡ after old.log.state (Gave old.log.state.turns)
  pub moment : new.moment ≡ old.moment
  pub calls : new.calls ≡ old.calls

-- the roles, the handler and the news are as before
pub record KeepsRoles (old new : Context) : Type 0 where
  pub roles : new.roles ≡ old.roles
  pub running : new.running ≡ old.running
  pub role : new.role ≡ old.role
  pub news_from : new.news_from ≡ old.news_from

-- an event is entered as handled, and the next of its series set
pub record EntersEvent (old new : Log) (event : Pending) (moment : ℕ) : Type 0 where
  pub by : Extends old new (Handled event.number moment ∷ renewal event old.state.next moment)
  pub turn : StaysInTurn old.state new.state
  pub has : HasHandled old.state new.state event
  pub rose : old.state.next ≤ new.state.next

-- a question is entered
pub record EntersQuestion (old new : Log) (moment : ℕ) : Type 0 where
  pub by : Extends old new (asking_entries old.state.next moment)
  pub turn : StaysInTurn old.state new.state
  pub pending : new.state.pending ≡ old.state.pending
  pub next : new.state.next ≡ old.state.next + 1
  pub live : new.state.live ≡ old.state.live

-- the handler of a role runs, for an event of this key; nothing else changed but the journal
pub record RunsNow (old new : Context) (key : ContKey) (r : ℕ) : Type 0 where
  pub running : new.running ≡ Some key
  pub role : new.role ≡ r
  pub roles : new.roles ≡ old.roles
  pub moment : new.moment ≡ old.moment
  pub calls : new.calls ≡ old.calls
  pub news_from : new.news_from ≡ old.news_from

-- the group's own continuation runs, at a moment, and no direct call waits
pub record AsksOwn (old new : Context) (moment : ℕ) : Type 0 where
  pub running : new.running ≡ Some own_key
  pub at_moment : new.moment ≡ moment
  pub calls : new.calls ≡ []
  pub role : new.role ≡ old.role
  pub roles : new.roles ≡ old.roles
  pub news_from : new.news_from ≡ old.news_from
