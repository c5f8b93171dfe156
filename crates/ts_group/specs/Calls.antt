-- What a handler may count on when it is called, and which events one call of `handle` handles.
use Rattle.std.specs.Prelude.{◌≡◌, ℕ, zero, suc, ◌+◌, ◌≤◌, List, [], ◌∷◌, ◌++◌, Option, Some, None}
use Rattle.ts_journal.specs.declared.entry.Event.{Event}
use Rattle.ts_journal.specs.declared.entry.Pending.{Pending}
use Rattle.ts_journal.specs.declared.entry.Entry.{Entry}
use Rattle.ts_journal.specs.declared.entry.Entry.TheVariants.{Handled}
use Rattle.ts_journal.specs.State.{State, pending_at}
use Rattle.ts_journal.specs.Machine.{IsKnown, IsValid, replay}
use Rattle.ts_journal.specs.Log.{Log, Extends}
use Rattle.ts_group.specs.declared.action.Named.{Named}
use Rattle.ts_group.specs.declared.group.TheConstants.{MOST_EVENTS}
use Rattle.ts_group.specs.declared.group.Group.{Group}
use Rattle.ts_group.specs.Context.{Context, IsOrderly, own_key, role_at}
use Rattle.ts_group.specs.Entries.{AllOwn, AreCalls, CanRenew, renewal, asking_entries}
use Rattle.ts_group.specs.Changes.{StaysInTurn, HasHandled}

-- an event that can be handled at a moment
pub record IsReady (log : Log) (moment : ℕ) (p : Pending) : Type 0 where
  pub there : pending_at p.number log.state.pending ≡ Some p
  pub known : IsKnown log.state p.number p
  pub due : p.due ≤ moment
  pub renew : CanRenew log p

-- A handler of this role is called for this event: the event was handled in a state before, and the entries
-- of that and of the next of its series led to the state now. Sound is what holds of the state before.
pub record IsCalled (Sound : State → List Named → Type 0) (now : Context)
    (role : ℕ) (event : Event) : Type 0 where
  pub before : State
  pub handled : Pending
  pub sound : Sound before now.roles
  pub valid : IsValid before
  pub there : pending_at handled.number before.pending ≡ Some handled
  pub known : IsKnown before handled.number handled
  pub due : handled.due ≤ now.moment
  pub now_is : now.log.state
      ≡ replay before (Handled handled.number now.moment ∷ renewal handled before.next now.moment)
  pub event_is : handled.event ≡ event
  pub role_is : role_at handled.key.index now.roles ≡ Some role
  pub running : now.running ≡ Some handled.key
  pub orderly : IsOrderly now
  pub has : HasHandled before now.log.state handled

-- A question is asked: an event of the group's own key was set and handled in the state before. These are the
-- last entries, and their moment is the moment now.
pub record IsAsked (Sound : State → List Named → Type 0) (now : Context) : Type 0 where
  pub before : State
  pub sound : Sound before now.roles
  pub now_is : now.log.state ≡ replay before (asking_entries before.next now.moment)
  pub earlier : List Entry
  pub entered : now.log.entries ≡ earlier ++ asking_entries before.next now.moment
  pub running : now.running ≡ Some own_key
  pub orderly : IsOrderly now
  pub pending : now.log.state.pending ≡ before.pending
  pub next : now.log.state.next ≡ before.next + 1
  pub live : now.log.state.live ≡ before.live

-- The entries of the event of a number that is handled, with those of its handler, which asked for these
-- direct calls.
pub record IsRun (s : State) (moment number : ℕ) (asked : List ℕ) (run : List Entry) : Type 0 where
  pub event : Pending
  pub there : pending_at number s.pending ≡ Some event
  pub own : List Entry
  pub all_own : AllOwn own
  pub are_calls : AreCalls moment asked own
  pub entries_are : run ≡ (Handled number moment ∷ renewal event s.next moment) ++ own

-- what comes now where an event is there, or what comes later
abbrev pub if_pending : Option Pending → ℕ × List ℕ → Option (ℕ × List ℕ) → Option (ℕ × List ℕ)
if_pending (Some p) this later = Some this
if_pending None this later = later

-- the first of these numbers that is pending, and those behind it
abbrev pub next_in : List Pending → List ℕ → Option (ℕ × List ℕ)
next_in ps [] = None
next_in ps (n ∷ ns) = if_pending (pending_at n ps) (n, ns) (next_in ps ns)

-- So many events are handled: first that of the number, and then the direct calls that these handlers asked
-- for, in the order asked for. `queue` are those that were asked for before, and `left` those that are left.
-- Each handler leads from one world to the next, and its calls are all that it asked for between the two.
abbrev pub RunsFrom : {W : Type 0} → (W → W → List ℕ → Type 0) → W → W
    → State → ℕ → ℕ → List ℕ → ℕ → List Entry → List ℕ → Type 0
RunsFrom {W} Called old new s moment number queue zero es left = ⊥
RunsFrom {W} Called old new s moment number queue (suc zero) es left =
    (asked : List ℕ) × IsRun s moment number asked es × Called old new asked × (left ≡ queue ++ asked)
RunsFrom {W} Called old new s moment number queue (suc (suc k)) es left =
    (asked : List ℕ) × (run : List Entry) × (rest : List Entry)
    × IsRun s moment number asked run × (es ≡ run ++ rest)
    × (mid : W) × Called old mid asked
    × (next : ℕ) × (behind : List ℕ) × (next_in (replay s run).pending (queue ++ asked) ≡ Some (next, behind))
    × RunsFrom Called mid new (replay s run) moment next behind (suc k) rest left

-- From a group to what it became, so many events were handled at a moment, the first under the number. The
-- direct calls that wait are those that these handlers asked for and that were not handled.
pub record Handles {W Q R T U : Type 0} (Called : W → W → List ℕ → Type 0) (old new : Group W Q R T U)
    (number moment events : ℕ) : Type 0 where
  pub some : 1 ≤ events
  pub most : events ≤ MOST_EVENTS
  pub es : List Entry
  pub by : Extends old.cx.log new.cx.log es
  pub runs : RunsFrom Called old.world new.world old.cx.log.state moment number [] events es new.cx.calls
  pub turn : StaysInTurn old.cx.log.state new.cx.log.state
  pub rise : new.cx.log.state.handled_count ≡ old.cx.log.state.handled_count + events
  pub now : new.cx.moment ≡ moment
  pub idle : new.cx.running ≡ None
  pub news_from : new.cx.news_from ≡ old.cx.news_from

-- One event was handled, under this number, and its handler, which led from one world to the other, has
-- returned.
pub record HasRun {W Q R T U : Type 0} (Called : W → W → List ℕ → Type 0) (old new : Group W Q R T U)
    (number : ℕ) : Type 0 where
  pub asked : List ℕ
  pub run : List Entry
  pub is_run : IsRun old.cx.log.state old.cx.moment number asked run
  pub by : Extends old.cx.log new.cx.log run
  pub calls : new.cx.calls ≡ old.cx.calls ++ asked
  pub called : Called old.world new.world asked
  pub turn : StaysInTurn old.cx.log.state new.cx.log.state
  pub moment : new.cx.moment ≡ old.cx.moment
  pub idle : new.cx.running ≡ None
  pub news_from : new.cx.news_from ≡ old.cx.news_from

-- The group's own key was asked, and its world has answered: these are the entries of the question and those
-- of the world's own calls.
pub record TakesQuestion (old new : Context) (moment : ℕ) : Type 0 where
  pub own : List Entry
  pub all_own : AllOwn own
  pub by : Extends old.log new.log (asking_entries old.log.state.next moment ++ own)
  pub turn : StaysInTurn old.log.state new.log.state
  pub now : new.moment ≡ moment
  pub idle : new.running ≡ None
  pub role : new.role ≡ old.role
  pub news_from : new.news_from ≡ old.news_from
