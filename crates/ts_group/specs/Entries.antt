-- The entries that calls append to a journal.
use Rattle.std.specs.Prelude.{⊤, ◌≡◌, ℕ, ◌+◌, ◌<◌, ◌≤◌, ◌&&◌, ◌⊎◌, true, List, [], ◌∷◌, ◌++◌, if◌then◌else◌, nat_lt, Some}
use Rattle.ts_journal.specs.declared.entry.TheConstants.{GREATEST}
use Rattle.ts_journal.specs.declared.entry.ContKey.{ContKey}
use Rattle.ts_journal.specs.declared.entry.Event.{Event}
use Rattle.ts_journal.specs.declared.entry.Event.TheVariants.{Timeout, Hook}
use Rattle.ts_journal.specs.declared.entry.Pending.{Pending}
use Rattle.ts_journal.specs.declared.entry.Entry.{Entry}
use Rattle.ts_journal.specs.declared.entry.Entry.TheVariants.{Took, Gave, Set, Handled, Dropped}
use Rattle.ts_journal.specs.State.{State, IsLive, pending_at}
use Rattle.ts_journal.specs.Log.{Log, Extends}
use Rattle.ts_group.specs.Context.{Context, needed, own_key}
use Rattle.ts_link.specs.Moments.{moment_after}

-- the entries that drop these events
abbrev pub drops : List ℕ → List Entry
drops [] = []
drops (n ∷ ns) = Dropped n ∷ drops ns

-- The next occurrence of a periodic event that is handled at a moment: one period later, under the next
-- number. There is none where the numbers are used up.
abbrev pub renewal : Pending → ℕ → ℕ → List Entry
renewal p next moment =
    if nat_lt 0 p.period && nat_lt next GREATEST
    then Set next p.key Timeout (moment_after moment p.period) p.series p.period ∷ []
    else []

-- the entries of a question: an event of the group's own key is set and handled
abbrev pub asking_entries : ℕ → ℕ → List Entry
asking_entries number moment = Set number own_key Hook moment number 0 ∷ Handled number moment ∷ []

-- An entry that a handler's own calls make. An event that they set begins a series.
abbrev pub IsOwn : Entry → Type 0
IsOwn (Took turn seat) = ⊥
IsOwn (Gave turn) = ⊥
IsOwn (Handled number moment) = ⊥
IsOwn (Set number key event due series period) = series ≡ number
IsOwn _ = ⊤

-- each of these entries is one of a handler's own calls
abbrev pub AllOwn : List Entry → Type 0
AllOwn [] = ⊤
AllOwn (e ∷ es) = IsOwn e × AllOwn es

-- these are the numbers of direct calls that the entries set at this moment, in this order
abbrev pub AreCalls : ℕ → List ℕ → List Entry → Type 0
AreCalls moment [] own = ⊤
AreCalls moment (n ∷ ns) own =
    (before : List Entry) × (after : List Entry) × (key : ContKey) × (event : Event)
    × (own ≡ before ++ Set n key event moment n 0 ∷ after) × AreCalls moment ns after

-- a journal goes on by entries of a handler's own calls
pub record GrowsLog (old new : Log) : Type 0 where
  pub own : List Entry
  pub by : Extends old new own
  pub all_own : AllOwn own

-- a journal goes on by entries of a handler's own calls, and the direct calls that wait by those among them
pub record GrowsCalls (old new : Log) (moment : ℕ) (old_calls new_calls : List ℕ) : Type 0 where
  pub own : List Entry
  pub by : Extends old new own
  pub all_own : AllOwn own
  pub asked : List ℕ
  pub calls : new_calls ≡ old_calls ++ asked
  pub are_calls : AreCalls moment asked own

-- what a handler's own calls leave
pub record Grows (old new : Context) : Type 0 where
  pub log : GrowsCalls old.log new.log old.moment old.calls new.calls
  pub moment : new.moment ≡ old.moment
  pub running : new.running ≡ old.running
  pub role : new.role ≡ old.role
  pub news_from : new.news_from ≡ old.news_from

-- room to handle an event and set its next occurrence, beside what is always kept
abbrev pub CanRenew : Log → Pending → Type 0
CanRenew log p = (p.period ≡ 0) ⊎ ((needed log.state + 2 ≤ log.room) × (1 ≤ log.set_room))

-- the event can be set: it begins a series under the next number, for a key that is live, and there is room
-- for it
pub record CanSet (log : Log) (event : Pending) : Type 0 where
  pub turn : log.state.held ≡ true
  pub live : IsLive log.state.live event.key
  pub number : event.number ≡ log.state.next
  pub unspent : event.number < GREATEST
  pub series : event.series ≡ event.number
  pub room : needed log.state + 2 ≤ log.room
  pub set_room : 0 < log.set_room

-- the event of the number can be cancelled: a turn is held, and it is pending
pub record CanCancel (log : Log) (number : ℕ) : Type 0 where
  pub turn : log.state.held ≡ true
  pub event : Pending
  pub there : pending_at number log.state.pending ≡ Some event
  pub room : needed log.state ≤ log.room

-- A question can be entered: a turn is held, the group's own key is live, and there is a number left for its
-- event.
pub record CanBeAsked (s : State) : Type 0 where
  pub turn : s.held ≡ true
  pub live : IsLive s.live own_key
  pub unspent : s.next < GREATEST
