-- Which continuation drives which stage, and that one that is roused has a pending event at which its stage
-- works. (The Developer's Guide, "Writing a Transformation Plugin": a transformation's handler works at the
-- events of its VConnection, and passes errors on.)
use Rattle.std.specs.Prelude.{◌≡◌, ◌≢◌, ℕ, zero, suc, ◌+◌, ◌≤◌, ◌<◌, List, [], ◌∷◌, length, Bool, true, false, Option, Some, None, Result, IfErr, map, slice_get, not, if◌then◌else◌, ◌⊎◌, ⊤}
use Rattle.ts_journal.specs.declared.entry.ContKey.{ContKey}
use Rattle.ts_journal.specs.declared.entry.Event.{Event}
use Rattle.ts_journal.specs.declared.entry.Event.TheVariants.{Immediate, Timeout, Error, ReadReady, WriteReady, ReadComplete, WriteComplete, Eos, InactivityTimeout, Hook}
use Rattle.ts_journal.specs.declared.entry.Pending.{Pending}
use Rattle.ts_journal.specs.State.{pending_at, same_key, without_index, IsLive}
use Rattle.ts_journal.specs.declared.entry.TheConstants.{GREATEST}
use Rattle.ts_group.specs.declared.action.Named.{Named}
use Rattle.ts_group.specs.Changes.{IsLess}
use Rattle.ts_group.specs.declared.action.SetFault.{SetFault}
use Rattle.ts_group.specs.declared.action.SetFault.TheVariants as F
use Rattle.ts_group.specs.Context.{Context, role_at, without_role, AllPlain}
use Rattle.ts_link.specs.Moments.{moment_after}
use Rattle.ts_group.specs.Entries.{Grows}
use Rattle.ts_transform.specs.Seats.{KeepsSeated}
use Rattle.ts_transform.specs.declared.continuation.StageContinuation.{StageContinuation}

-- a stage works at each event, but for an error, which it passes on, and for the end of its output
abbrev pub works_at : Event → Bool
works_at Immediate = true
works_at Timeout = true
works_at Error = false
works_at ReadReady = true
works_at WriteReady = true
works_at ReadComplete = true
works_at WriteComplete = false
works_at Eos = true
works_at InactivityTimeout = true
works_at Hook = true

-- an event of the key is pending at which its stage works
pub record HasEvent (pending : List Pending) (key : ContKey) : Type 0 where
  pub event : Pending
  pub there : pending_at event.number pending ≡ Some event
  pub of_key : event.key ≡ key
  pub works : works_at event.event ≡ true

-- an event of a kind is pending of the key
pub record HasKind (pending : List Pending) (key : ContKey) (kind : Event) : Type 0 where
  pub event : Pending
  pub there : pending_at event.number pending ≡ Some event
  pub of_key : event.key ≡ key
  pub is : event.event ≡ kind

-- a continuation has the role of its stage, and an event where it is roused
pub record IsOfStage (pending : List Pending) (roles : List Named) (role : ℕ)
    (t : StageContinuation) : Type 0 where
  pub named : role_at t.key.index roles ≡ Some role
  pub event : t.roused ≡ true → HasEvent pending t.key

-- a continuation has its role, if there is one
abbrev pub IsNamedIf : List Named → ℕ → Option StageContinuation → Type 0
IsNamedIf roles role None = ⊤
IsNamedIf roles role (Some t) = role_at t.key.index roles ≡ Some role

-- continuations have the roles from this one on
abbrev pub AreNamed : List Named → ℕ → List (Option StageContinuation) → Type 0
AreNamed roles role [] = ⊤
AreNamed roles role (t ∷ ts) = IsNamedIf roles role t × AreNamed roles (role + 1) ts

abbrev pub IsOfStageIf : List Pending → List Named → ℕ → Option StageContinuation → Type 0
IsOfStageIf pending roles role None = ⊤
IsOfStageIf pending roles role (Some t) = IsOfStage pending roles role t

-- the continuations of stages have the roles from this one on; a stage may have none
abbrev pub AreOfStages : List Pending → List Named → ℕ → List (Option StageContinuation) → Type 0
AreOfStages pending roles role [] = ⊤
AreOfStages pending roles role (t ∷ ts) = IsOfStageIf pending roles role t × AreOfStages pending roles
    (role + 1) ts

-- the stage has a continuation that is roused
abbrev pub IsRousedIf : Option StageContinuation → Type 0
IsRousedIf None = ⊥
IsRousedIf (Some t) = t.roused ≡ true

-- so has the stage at a place
abbrev pub IsRoused : List (Option StageContinuation) → ℕ → Type 0
IsRoused [] at = ⊥
IsRoused (t ∷ ts) zero = IsRousedIf t
IsRoused (t ∷ ts) (suc at) = IsRoused ts at

-- a continuation is told of an event, if there is one
abbrev pub IsToldIf : List Pending → Event → Option StageContinuation → Type 0
IsToldIf pending event slot = (t : StageContinuation) → slot ≡ Some t → HasKind pending t.key event

-- the stage at a place is told of an event, if it has a continuation
abbrev pub IsTold : List Pending → Event → List (Option StageContinuation) → ℕ → Type 0
IsTold pending event ts at = (t : StageContinuation) → slice_get ts at ≡ Some (Some t)
    → HasKind pending t.key event

-- so is the stage before a place, if there is one
abbrev pub IsToldBefore : List Pending → Event → List (Option StageContinuation) → ℕ → Type 0
IsToldBefore pending event ts at = (j : ℕ) → j + 1 ≡ at → IsTold pending event ts j

-- the stage at a place was roused before, or is called with WriteReady
abbrev pub IsCalledUnless : List (Option StageContinuation) → List Pending → List (Option StageContinuation)
    → ℕ → Type 0
IsCalledUnless before pending ts at = IsRoused before at ⊎ IsTold pending WriteReady ts at

-- a continuation is there, and is live
abbrev pub HasLiveIf : List ContKey → Option StageContinuation → Type 0
HasLiveIf live None = ⊥
HasLiveIf live (Some t) = IsLive live t.key

-- so is that of the stage at a place
abbrev pub HasLive : List ContKey → List (Option StageContinuation) → ℕ → Type 0
HasLive live [] at = ⊥
HasLive live (t ∷ ts) zero = HasLiveIf live t
HasLive live (t ∷ ts) (suc at) = HasLive live ts at

-- the continuation at each place is there, and is live
abbrev pub EachIsLive : List ContKey → List (Option StageContinuation) → Type 0
EachIsLive live [] = ⊤
EachIsLive live (t ∷ ts) = HasLiveIf live t × EachIsLive live ts

-- each continuation that is there is live
abbrev pub AreLive : List ContKey → List (Option StageContinuation) → Type 0
AreLive live ts = (j : ℕ) (t : StageContinuation) → slice_get ts j ≡ Some (Some t) → IsLive live t.key

-- A continuation is gone, with the events that were pending of it: no event of it is pending, and all others
-- that were live are so, under their roles and with their events.
pub record IsGone (old new : Context) (key : ContKey) : Type 0 where
  pub live : new.log.state.live ≡ without_index key.index old.log.state.live
  pub roles : new.roles ≡ without_role key.index old.roles
  pub none : (n : ℕ) (p : Pending) → pending_at n new.log.state.pending ≡ Some p → same_key p.key key ≡ false
  pub stays : (n : ℕ) (p : Pending) → pending_at n old.log.state.pending ≡ Some p → same_key p.key key ≡ false
      → pending_at n new.log.state.pending ≡ Some p

-- it was destroyed, if it was live
abbrev pub IsDestroyed : Context → Context → ContKey → Type 0
IsDestroyed old new key = IsGone old new key ⊎ (IsLive old.log.state.live key → ⊥)

-- so was that of the stage at a place
abbrev pub IsClosed : Context → Context → List (Option StageContinuation) → ℕ → Type 0
IsClosed old new ts at = (t : StageContinuation) → slice_get ts at ≡ Some (Some t) → IsDestroyed old new t.key

-- What is left where the continuation of the stage at a place was destroyed: it is gone, and the events of
-- all others stay.
pub record ClosesAt (old new : Context) (ts : List (Option StageContinuation)) (at : ℕ) : Type 0 where
  pub closed : IsClosed old new ts at
  pub stays : (n : ℕ) (p : Pending) → pending_at n old.log.state.pending ≡ Some p
      → ((t : StageContinuation) → slice_get ts at ≡ Some (Some t) → same_key p.key t.key ≡ false)
      → pending_at n new.log.state.pending ≡ Some p

-- a continuation whose event was handled, one that passed an error on, and one that was destroyed
abbrev pub unroused : Option StageContinuation → Option StageContinuation
unroused None = None
unroused (Some t) = Some (record t { roused = false })

abbrev pub error_passed : Option StageContinuation → Option StageContinuation
error_passed None = None
error_passed (Some t) = Some (record t { passed_error = true })

abbrev pub gone : Option StageContinuation → Option StageContinuation
gone t = None

-- the continuations with another at one place
abbrev pub changed : (Option StageContinuation → Option StageContinuation) → List (Option StageContinuation)
    → ℕ → List (Option StageContinuation)
changed f [] at = []
changed f (t ∷ ts) zero = f t ∷ ts
changed f (t ∷ ts) (suc at) = t ∷ changed f ts at

-- the continuations, but for which of them are roused
abbrev pub all_unroused : List (Option StageContinuation) → List (Option StageContinuation)
all_unroused ts = map unroused ts

-- whether there is a continuation that has passed no error on
abbrev pub may_pass_error : Option StageContinuation → Bool
may_pass_error None = false
may_pass_error (Some t) = not t.passed_error

abbrev pub may_pass_error_at : List (Option StageContinuation) → ℕ → Bool
may_pass_error_at [] at = false
may_pass_error_at (t ∷ ts) zero = may_pass_error t
may_pass_error_at (t ∷ ts) (suc at) = may_pass_error_at ts at

-- how many calls a continuation may still make to the one before it: with the error that it passes on, and
-- where it finds its stage ended
abbrev pub calls_of : Option StageContinuation → ℕ
calls_of None = 0
calls_of (Some t) = if t.passed_error then 1 else 2

-- how many all of them may still make
abbrev pub upstream_calls : List (Option StageContinuation) → ℕ
upstream_calls [] = 0
upstream_calls (t ∷ ts) = calls_of t + upstream_calls ts

-- whether a continuation stands at a place
abbrev pub is_there : Option (Option StageContinuation) → Bool
is_there None = false
is_there (Some None) = false
is_there (Some (Some t)) = true

-- whether the stage at a place has its continuation, and whether the one before it has
abbrev pub is_there_at : List (Option StageContinuation) → ℕ → Bool
is_there_at ts at = is_there (slice_get ts at)

abbrev pub is_there_before : List (Option StageContinuation) → ℕ → Bool
is_there_before ts zero = false
is_there_before ts (suc at) = is_there_at ts at

-- the stage at a place, which had its event, tells nobody: it or the one before it has no continuation
abbrev pub HasNobodyToTell : List (Option StageContinuation) → ℕ → Type 0
HasNobodyToTell ts at = (is_there_at ts at ≡ false) ⊎ (is_there_before ts at ≡ false)

-- the continuation of the last stage
abbrev pub last_of : List (Option StageContinuation) → Option StageContinuation
last_of [] = None
last_of (t ∷ []) = t
last_of (t ∷ u ∷ ts) = last_of (u ∷ ts)

-- the continuations when an event of one was handled, by whether its stage works at it
abbrev pub unroused_for : Bool → List (Option StageContinuation) → ℕ → List (Option StageContinuation)
unroused_for true ts at = changed unroused ts at
unroused_for false ts at = ts

abbrev pub unroused_at : Event → List (Option StageContinuation) → ℕ → List (Option StageContinuation)
unroused_at event ts at = unroused_for (works_at event) ts at

-- What was pending is so, under the same roles; no event that was added is periodic; and the same
-- continuations are live.
pub record Keeps (old new : Context) : Type 0 where
  pub pending : (n : ℕ) (p : Pending) → pending_at n old.log.state.pending ≡ Some p
      → pending_at n new.log.state.pending ≡ Some p
  pub roles : new.roles ≡ old.roles
  pub plain : AllPlain old.log.state.pending → AllPlain new.log.state.pending
  pub turn : new.log.state.held ≡ true
  pub live : new.log.state.live ≡ old.log.state.live

-- The stage of a continuation keeps it, with its event, and is roused if it was.
pub record KeepsStage (a b : Context) (t u : Option StageContinuation) : Type 0 where
  pub of_stage : (role : ℕ) → IsOfStageIf a.log.state.pending a.roles role t
      → IsOfStageIf b.log.state.pending b.roles role u
  pub still : IsRousedIf t → IsRousedIf u
  pub same : unroused u ≡ unroused t

-- So does each stage.
pub record KeepsStages (a b : Context) (ts us : List (Option StageContinuation)) : Type 0 where
  pub of_stages : (first : ℕ) → AreOfStages a.log.state.pending a.roles first ts
      → AreOfStages b.log.state.pending b.roles first us
  pub still : (j : ℕ) → IsRoused ts j → IsRoused us j
  pub same : all_unroused us ≡ all_unroused ts
  pub len : length us ≡ length ts
  pub seated : KeepsSeated ts us a b

-- only such events were set
abbrev pub SetsOnly : (Pending → Type 0) → Context → Context → Type 0
SetsOnly Such old new = (n : ℕ) (p : Pending) → pending_at n old.log.state.pending ≡ None
    → pending_at n new.log.state.pending ≡ Some p → Such p

-- the event is due after the pause, and no later
abbrev pub IsDueAfter : ℕ → ℕ → Pending → Type 0
IsDueAfter pause moment p = (moment_after moment pause ≤ p.due) × (p.due ≤ moment + pause)

-- it is one of the key at which a stage works, after the pause
pub record IsWorkOf (key : ContKey) (pause moment : ℕ) (p : Pending) : Type 0 where
  pub of_key : p.key ≡ key
  pub works : works_at p.event ≡ true
  pub due : IsDueAfter pause moment p

-- the same of a continuation, if there is one
abbrev pub IsWorkOfIf : Option StageContinuation → ℕ → ℕ → Pending → Type 0
IsWorkOfIf None pause moment p = ⊥
IsWorkOfIf (Some t) pause moment p = IsWorkOf t.key pause moment p

-- the same of the continuation of a role
pub record IsRousingOf (role pause moment : ℕ) (roles : List Named) (p : Pending) : Type 0 where
  pub role_is : role_at p.key.index roles ≡ Some role
  pub works : works_at p.event ≡ true
  pub due : IsDueAfter pause moment p

-- only the stage at a place is roused, after the pause, and not where it was
abbrev pub RousesAt : ℕ → ℕ → List (Option StageContinuation) → Context → Context → Type 0
RousesAt at pause ts a b =
    (IsRoused ts at → SetsOnly (λ p. ⊥) a b)
    × ((first : ℕ) → AreNamed a.roles first ts → SetsOnly (IsRousingOf
    (first + at) pause a.moment a.roles) a b)

-- the continuation of a role is told of an event
pub record IsTelling (event : Event) (role : ℕ) (roles : List Named) (p : Pending) : Type 0 where
  pub event_is : p.event ≡ event
  pub role_is : role_at p.key.index roles ≡ Some role

-- the continuation of the stage before a place is told of an event, where the stages have the roles from the
-- first on
pub record IsTellingBefore (event : Event) (first at : ℕ) (roles : List Named) (p : Pending) : Type 0 where
  pub place : ℕ
  pub before : place + 1 ≡ at
  pub telling : IsTelling event (first + place) roles p

-- only such events were set, whatever role is the first
abbrev pub OnlyTellsBefore : Event → ℕ → List (Option StageContinuation) → Context → Context → Type 0
OnlyTellsBefore event at ts a b = (first : ℕ) → AreNamed a.roles first ts
    → SetsOnly (IsTellingBefore event first at a.roles) a b

-- at most so many events were set
pub record SetsFew (most : ℕ) (old new : Context) : Type 0 where
  pub next : new.log.state.next ≤ old.log.state.next + most
  pub pending : length new.log.state.pending ≤ length old.log.state.pending + most

-- how many events are set at most: for the stages round one that worked
abbrev pub most_round : ℕ
most_round = 3

-- by a stage at its event, which tells the one before it where it ends, or finds itself ended
abbrev pub most_by_stage : ℕ
most_by_stage = 4

-- for the two ends of a chain between links
abbrev pub most_for_ends : ℕ
most_for_ends = 2

-- at an event of such a chain, by a stage or an end and then for both ends
abbrev pub most_by_event : ℕ
most_by_event = 6

-- an event of the role was handled, and each other event stays as it was
pub record IsHandled (before now : List Pending) (roles : List Named) (role : ℕ)
    (event : Event) : Type 0 where
  pub handled : Pending
  pub event_is : handled.event ≡ event
  pub there : pending_at handled.number before ≡ Some handled
  pub role_is : role_at handled.key.index roles ≡ Some role
  pub others : (n : ℕ) (p : Pending) → n ≢ handled.number → pending_at n before ≡ Some p
      → pending_at n now ≡ Some p

-- an event of the key is pending at which its stage works, if there is a key
abbrev pub HasEventIf : List Pending → Option ContKey → Type 0
HasEventIf pending None = ⊤
HasEventIf pending (Some key) = HasEvent pending key

-- Why an event was not set: the continuations are not live that ought to be, or the event numbers are used up
-- in the context that was left. Want of memory has no cause here.
abbrev pub IsCause : Type 0 → SetFault → Context → Type 0
IsCause Live F.NoMemory now = ⊤
IsCause Live F.Dead now = Live → ⊥
IsCause Live F.Spent now = GREATEST ≤ now.log.state.next

-- What calls leave that set at most so many events, for continuations that ought to be live: all else goes
-- on. Where one could not be set, they say why.
pub record AddsEvents {T : Type 0} (most : ℕ) (Live : Type 0) (result : Result T SetFault)
    (old new : Context) : Type 0 where
  pub grows : Grows old new
  pub keeps : Keeps old new
  pub few : SetsFew most old new
  pub cause : IfErr result (λ fault. IsCause Live fault new)

-- What a handler leaves that sets at most so many events, and may make or destroy continuations.
pub record ActsWithin (most : ℕ) (old new : Context) : Type 0 where
  pub grows : Grows old new
  pub turn : new.log.state.held ≡ true
  pub plain : AllPlain old.log.state.pending → AllPlain new.log.state.pending
  pub few : SetsFew most old new

-- What is left where a continuation was destroyed, or was not live: nothing was set.
pub record Lessens (old new : Context) : Type 0 where
  pub grows : Grows old new
  pub turn : new.log.state.held ≡ true
  pub plain : AllPlain old.log.state.pending → AllPlain new.log.state.pending
  pub few : SetsFew 0 old new
  pub none : SetsOnly (λ p. ⊥) old new
  pub less : IsLess old.log.state new.log.state

-- A continuation of a role outside the roles of stages keeps its role and its event.
abbrev pub KeepsOthers : ℕ → List (Option StageContinuation) → Context → Context → Type 0
KeepsOthers first ts a b = (role : ℕ) (t : Option StageContinuation) → AreNamed a.roles first ts
    → (role < first) ⊎ (first + length ts ≤ role)
    → IsOfStageIf a.log.state.pending a.roles role t → IsOfStageIf b.log.state.pending b.roles role t

-- A continuation was marked as roused, for which an event of this key has then to be set; none where it was
-- roused before.
abbrev pub IsMarked : Option ContKey → Option StageContinuation → Option StageContinuation → Type 0
IsMarked key t u = (a b : Context) → Keeps a b → HasEventIf b.log.state.pending key → (role : ℕ)
    → IsOfStageIf a.log.state.pending a.roles role t → IsOfStageIf b.log.state.pending b.roles role u

-- So was the last of these.
abbrev pub IsLastMarked : Option ContKey → List (Option StageContinuation) → List (Option StageContinuation)
    → Type 0
IsLastMarked key ts us = (a b : Context) → Keeps a b → HasEventIf b.log.state.pending key → (first : ℕ)
    → AreOfStages a.log.state.pending a.roles first ts → AreOfStages b.log.state.pending b.roles first us

-- Each continuation that was made before keeps its role and its event, and is live if it was.
pub record KeepsMade (a b : Context) : Type 0 where
  pub of_stage : (role : ℕ) (t : Option StageContinuation) → IsOfStageIf a.log.state.pending a.roles role t
      → IsOfStageIf b.log.state.pending b.roles role t
  pub live : (key : ContKey) → IsLive a.log.state.live key → IsLive b.log.state.live key

-- What a start leaves, which makes these continuations: whoever was made before stays, and whatever was set
-- is of one of these.
pub record BeginsBeside (ts : List (Option StageContinuation)) (a b : Context) : Type 0 where
  pub made : KeepsMade a b
  pub seated : KeepsSeated [] ts a b
