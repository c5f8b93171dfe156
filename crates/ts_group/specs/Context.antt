-- What a contract sees of a group's continuations.
use Rattle.std.specs.Prelude.{⊤, ◌≡◌, ℕ, ◌+◌, ◌-◌, ◌<◌, ◌≤◌, ◌==◌, List, [], ◌∷◌, Option, Some, None, length, if◌then◌else◌, IsSome, unwrap_or}
use Rattle.ts_journal.specs.declared.entry.TheConstants.{MOST_KEYS, GREATEST}
use Rattle.ts_journal.specs.declared.entry.ContKey.{ContKey}
use Rattle.ts_journal.specs.declared.entry.Pending.{Pending}
use Rattle.ts_journal.specs.State.{State, IsLive, fresh_with, generation_at, pending_at}
use Rattle.ts_journal.specs.Machine.{IsValid}
use Rattle.ts_journal.specs.Log.{Log, IsSameLog, new_base}
use Rattle.ts_group.specs.declared.action.Named.{Named}

-- The journal; the role of each key that is live; the moment; the key of the handler that runs, and the role
-- of the one that runs or ran last; the number from which on pending events are news; and the direct calls
-- that wait.
pub record Context : Type 0 where
  pub log : Log
  pub roles : List Named
  pub moment : ℕ
  pub running : Option ContKey
  pub role : ℕ
  pub news_from : ℕ
  pub calls : List ℕ

-- the keys that have a role
abbrev pub keys_of : List Named → List ContKey
keys_of [] = []
keys_of (r ∷ rs) = r.key ∷ keys_of rs

-- the role with which the key of an index was made
abbrev pub role_at : ℕ → List Named → Option ℕ
role_at i [] = None
role_at i (r ∷ rs) = if r.key.index == i then Some r.role else role_at i rs

-- the roles but that of the key of an index
abbrev pub without_role : ℕ → List Named → List Named
without_role i [] = []
without_role i (r ∷ rs) = if r.key.index == i then rs else r ∷ without_role i rs

-- The key of the continuation that a group is made with. It has the index that is given away last.
abbrev pub own_key : ContKey
own_key = record { index = MOST_KEYS - 1; generation = 1 }

-- where a group begins that has made so many turns elsewhere: its own continuation is live, with the role 0
pub record IsFresh (turns : ℕ) (now : Context) : Type 0 where
  pub base : now.log.base ≡ new_base (fresh_with turns own_key)
  pub entries : now.log.entries ≡ []
  pub state : now.log.state ≡ fresh_with turns own_key
  pub roles : now.roles ≡ record { key = own_key; role = 0 } ∷ []
  pub running : now.running ≡ None
  pub news_from : now.news_from ≡ 0
  pub calls : now.calls ≡ []

-- the entries that close all that is pending, destroy all that is live, and give the turn back
abbrev pub needed : State → ℕ
needed s = length s.pending + length s.live + (if s.held then 1 else 0)

-- the journal has room for the entries that are always needed
abbrev pub HasNeeded : Log → Type 0
HasNeeded log = needed log.state ≤ log.room

-- the journal has room for so many entries beside those that are always needed
pub record HasSpare (log : Log) (more : ℕ) : Type 0 where
  pub room : needed log.state + more ≤ log.room
  pub set_room : more ≤ log.set_room
  pub key_room : more ≤ log.key_room

-- A group has ended: it made continuations, of which, its own among them, at most one is left, and nothing is
-- pending. Whatever made one has given the least index away.
pub record HasEnded (log : Log) : Type 0 where
  pub pending : log.state.pending ≡ []
  pub left : length log.state.live ≤ 1
  pub made : IsSome (generation_at 0 log.state.newest)

-- the journal has room for the entries that are always needed, and the roles are those of the live keys
pub record IsKept (log : Log) (roles : List Named) : Type 0 where
  pub room : needed log.state ≤ log.room
  pub keys : keys_of roles ≡ log.state.live

-- a number of a direct call: while its event is pending, it is plain and due
pub record IsCall (s : State) (moment n : ℕ) : Type 0 where
  pub below : n < s.next
  pub ready : (p : Pending) → pending_at n s.pending ≡ Some p → (p.due ≤ moment) × (p.period ≡ 0)

-- each of these numbers is one of a direct call
abbrev pub AllCalls : State → ℕ → List ℕ → Type 0
AllCalls s moment [] = ⊤
AllCalls s moment (n ∷ ns) = IsCall s moment n × AllCalls s moment ns

-- each key that is live has a role, and nothing else has; and the state is one that a lawful journal reaches
pub record IsOrderly (now : Context) : Type 0 where
  pub valid : IsValid now.log.state
  pub keys : keys_of now.roles ≡ now.log.state.live
  pub named : (key : ContKey) → IsLive now.log.state.live key
      → (role : ℕ) × (role_at key.index now.roles ≡ Some role)

-- nothing changed, but that the journal may have got more room
pub record IsSame (old new : Context) : Type 0 where
  pub log : IsSameLog old.log new.log
  pub roles : new.roles ≡ old.roles
  pub moment : new.moment ≡ old.moment
  pub running : new.running ≡ old.running
  pub role : new.role ≡ old.role
  pub news_from : new.news_from ≡ old.news_from
  pub calls : new.calls ≡ old.calls

-- an index is not live, and its generation can still rise
abbrev pub CanUse : State → ℕ → Type 0
CanUse s i = (generation_at i s.live ≡ None) × (unwrap_or (generation_at i s.newest) 0 < GREATEST)

-- no pending event is periodic
abbrev pub AllPlain : List Pending → Type 0
AllPlain [] = ⊤
AllPlain (p ∷ ps) = (p.period ≡ 0) × AllPlain ps
