-- The duties of a transaction on its course, and the events that do them: while it goes on, each has an event
-- of a continuation that does it, so that no wake is lost (Developer's Guide, "Continuations" and "Actions
-- and Events").
use Rattle.std.specs.Prelude.{◌≡◌, ℕ, ◌≤◌, ◌⊎◌, List, [], ◌∷◌, Bool, true, false, Option, Some, None, ⊤}
use Rattle.ts_journal.specs.declared.entry.TheConstants.{GREATEST}
use Rattle.ts_journal.specs.declared.entry.Pending.{Pending}
use Rattle.ts_group.specs.declared.action.Named.{Named}
use Rattle.ts_group.specs.Context.{AllPlain, Context}
use Rattle.ts_hooks.specs.declared.txn_end.TxnEnd.TheVariants as E
use Rattle.ts_transform.specs.Carrying.{IsJoined}
use Rattle.ts_transform.specs.Driving.{ActsWithin, AreNamed, HasLiveIf, IsNamedIf, IsOfStageIf, IsRousedIf}
use Rattle.ts_transform.specs.Flow.{EndsInOrder}
use Rattle.ts_transform.specs.Seats.{AllSeated}
use Rattle.ts_transform.specs.declared.continuation.StageContinuation.{StageContinuation}
use Rattle.ts_phases.specs.Cover.{Proceeds, is_fresh}
use Rattle.ts_relay.specs.Duties.{AreBodyEndsRoused, IsBodyCovered, IsBodyJoined, RunsOr, UnlessLacking}
use Rattle.ts_relay.specs.Duties.{WhileGoes, body_seats, relay_seats}
use Rattle.ts_phases.specs.View.{View}
use Rattle.ts_txn.specs.declared.course.Course.{Course}
use Rattle.ts_txn.specs.declared.course.Course.TheVariants as K
use Rattle.ts_link.specs.declared.clock.TheConstants.{RETRY_AFTER}
use Rattle.ts_relay.specs.declared.relay.TheConstants.{MAIN, READER}
use Rattle.ts_relay.specs.declared.last_writes.BodyStep.{BodyStep}
use Rattle.ts_relay.specs.declared.last_writes.BodyStep.TheVariants as S
use Rattle.ts_phases.specs.declared.phase.Next.{Next}
use Rattle.ts_phases.specs.declared.phase.Next.TheVariants as N
use Rattle.ts_phases.specs.declared.phase.Phase.{Phase}
use Rattle.ts_phases.specs.declared.phase.Phase.TheVariants as P
use Rattle.ts_relay.specs.declared.relay.Relay.{Relay}

-- a transaction was not started
abbrev pub is_fresh_on : {Q : Type 0} → Course Q → Bool
is_fresh_on (K.Phased p) = is_fresh p
is_fresh_on (K.Relaying r) = false
is_fresh_on (K.Finishing end) = false

-- an event of the continuation
abbrev pub IsOfMain : Option StageContinuation → Pending → Type 0
IsOfMain None p = ⊥
IsOfMain (Some t) p = p.key ≡ t.key

-- before it was started, and once it has ended, a transaction has no continuation, and so nothing is pending
abbrev pub Idles : Phase → Option StageContinuation → Type 0
Idles P.Fresh main = main ≡ None
Idles (P.Ended end) main = main ≡ None
Idles _ main = ⊤

-- while it goes on, its next step has an event
abbrev pub HasNextEvent : Phase → Option StageContinuation → Type 0
HasNextEvent P.Fresh main = ⊤
HasNextEvent (P.Ended end) main = ⊤
HasNextEvent _ main = IsRousedIf main

-- or no event can be set, since the numbers of its group are used up
abbrev pub HasNextEventOr : Phase → Option StageContinuation → ℕ → Type 0
HasNextEventOr phase main next = HasNextEvent phase main ⊎ (GREATEST ≤ next)

-- the continuations of a transaction
abbrev pub course_seats : {Q : Type 0} → Option StageContinuation → Course Q → List (Option StageContinuation)
course_seats main (K.Phased p) = main ∷ []
course_seats main (K.Relaying r) = body_seats main r
course_seats main (K.Finishing end) = main ∷ []

-- before it was started, and once it has ended, it has none
abbrev pub IdlesOn : {Q : Type 0} → Course Q → Option StageContinuation → Type 0
IdlesOn (K.Phased p) main = Idles p main
IdlesOn (K.Relaying r) main = ⊤
IdlesOn (K.Finishing end) main = ⊤

-- each duty of a body that is passed on has its event
pub record BodyHasEvents {Q : Type 0} (v : View) (main : Option StageContinuation) (r : Relay Q)
    (pending : List Pending) (roles : List Named) : Type 0 where
  pub runs : r.driven.running ≡ true
  pub joined : IsJoined r.driven.chain r.driven.table.items main r.reader pending roles
  pub ends : AreBodyEndsRoused v main r
  pub ordered : EndsInOrder true r.driven.chain.stages

-- so has each duty of a transaction
abbrev pub HasEventsOn : {Q : Type 0} → View → Option StageContinuation → Course Q → List Pending → List Named
    → Type 0
HasEventsOn v main (K.Phased p) pending roles = IsOfStageIf pending roles MAIN main × HasNextEvent p main
HasEventsOn v main (K.Relaying r) pending roles = BodyHasEvents v main r pending roles
HasEventsOn v main (K.Finishing end) pending roles = IsOfStageIf pending roles MAIN main × IsRousedIf main

-- Each pending event is plain, and one of its continuations; and each duty has its event, or none can be set,
-- since the numbers of its group are used up.
pub record IsCoveredOn {Q : Type 0} (v : View) (main : Option StageContinuation) (course : Course Q)
    (pending : List Pending) (next : ℕ) (roles : List Named) : Type 0 where
  pub seated : AllSeated pending (course_seats main course)
  pub plain : AllPlain pending
  pub idles : IdlesOn course main
  pub covered : HasEventsOn v main course pending roles ⊎ (GREATEST ≤ next)

-- the same of what is pending now
abbrev pub IsCoveredNow : {Q : Type 0} → View → Option StageContinuation → Course Q → Context → Type 0
IsCoveredNow v main course now = IsCoveredOn v main course now.log.state.pending now.log.state.next now.roles

-- a body is passed on
abbrev pub PassesBody : {Q : Type 0} → Course Q → Type 0
PassesBody (K.Relaying r) = ⊤
PassesBody _ = ⊥

-- no body is
abbrev pub PassesNoBody : {Q : Type 0} → Course Q → Type 0
PassesNoBody (K.Relaying r) = ⊥
PassesNoBody _ = ⊤

-- it was started, and has not ended
abbrev pub ProceedsOn : {Q : Type 0} → Course Q → Type 0
ProceedsOn (K.Phased p) = Proceeds p
ProceedsOn (K.Relaying r) = ⊤
ProceedsOn (K.Finishing end) = ⊤

-- so it is, and passes no body on: its next step is one of its first continuation
abbrev pub GoesAlone : {Q : Type 0} → Course Q → Type 0
GoesAlone (K.Phased p) = Proceeds p
GoesAlone (K.Relaying r) = ⊥
GoesAlone (K.Finishing end) = ⊤

-- it is where it was led, or has ended for want of memory
abbrev pub StaysOnOrLacks : {Q : Type 0} → Course Q → Course Q → Type 0
StaysOnOrLacks {Q} old new = (new ≡ old) ⊎ (new ≡ K.Phased (P.Ended E.NoMemory))

-- a handler's calls set one event, or none
abbrev pub SetsOneOrNone : Context → Context → Type 0
SetsOneOrNone a b = ActsWithin 1 a b

-- used-up event numbers never end it, where its first continuation is live
abbrev pub StaysWhereSpent : {Q : Type 0} → Course Q → Course Q → Option StageContinuation → Context → Type 0
StaysWhereSpent {Q} led result main now =
    GREATEST ≤ now.log.state.next → HasLiveIf now.log.state.live main → result ≡ led

-- nor do they where a body is left, whose continuations have their roles
abbrev pub StaysWhereNamed : {Q : Type 0} → Course Q → Relay Q → Course Q → Option StageContinuation
    → Context → Type 0
StaysWhereNamed led r result main now =
    IsNamedIf now.roles MAIN main → AreNamed now.roles READER (relay_seats r)
    → StaysWhereSpent led result main now

-- Behind the step of a phase it is where that led, or has ended for want of memory where an event was to be
-- set.
abbrev pub LedBehind : {Q : Type 0} → Next → Course Q → Course Q → Type 0
LedBehind N.Done led new = new ≡ led
LedBehind next led new = StaysOnOrLacks led new

-- The same behind a step of a body.
abbrev pub LedAfter : {Q : Type 0} → BodyStep → Course Q → Course Q → Type 0
LedAfter S.Goes led new = new ≡ led
LedAfter S.Waits led new = new ≡ led
LedAfter step led new = StaysOnOrLacks led new

-- how long after a step of the last writes the next one is made, in milliseconds
abbrev pub pause_after : BodyStep → ℕ
pause_after S.Waits = RETRY_AFTER
pause_after step = 0

-- No continuation is there but the first: each pending event is plain, and of it; and it has its role, and an
-- event where it is roused, or the event numbers are used up.
pub record IsAloneWith (main : Option StageContinuation) (pending : List Pending) (next : ℕ)
    (roles : List Named) : Type 0 where
  pub seated : AllSeated pending (main ∷ [])
  pub plain : AllPlain pending
  pub of_main : IsOfStageIf pending roles MAIN main ⊎ (GREATEST ≤ next)

-- the same of what is pending now
abbrev pub IsAlone : Option StageContinuation → Context → Type 0
IsAlone main now = IsAloneWith main now.log.state.pending now.log.state.next now.roles

-- The duties of a body behind a step: the continuations have their roles and their events, and where the step
-- goes on each duty has its event.
pub record HasStepDone {Q : Type 0} (step : BodyStep) (v : View) (main : Option StageContinuation)
    (r : Relay Q) (now : Context) : Type 0 where
  pub joined : IsBodyJoined main r now.log.state.pending now.roles
  pub covered : WhileGoes step (IsBodyCovered v main r now.log.state.next)
  pub runs : UnlessLacking step (RunsOr r now.log.state.next)
  pub ordered : EndsInOrder true r.driven.chain.stages

-- A body stands so behind a step: each pending event is plain, and of one of its continuations; and its
-- duties are so, or the event numbers are used up.
pub record StandsBehind {Q : Type 0} (step : BodyStep) (v : View) (main : Option StageContinuation)
    (r : Relay Q) (now : Context) : Type 0 where
  pub seated : AllSeated now.log.state.pending (body_seats main r)
  pub plain : AllPlain now.log.state.pending
  pub body : HasStepDone step v main r now ⊎ (GREATEST ≤ now.log.state.next)

-- A transaction whose first continuation was alone is covered where it was led, whatever its links show.
abbrev pub CoversAlone : {Q : Type 0} → Option StageContinuation → Option StageContinuation → Course Q
    → Context → Context → Type 0
CoversAlone t u result a b = IsAlone t a → (v : View) → IsCoveredNow v u result b

-- So is one whose body stood so behind a step.
abbrev pub CoversLed : {Q : Type 0} → BodyStep → Relay Q → Option StageContinuation → Option StageContinuation
    → Course Q → Context → Context → Type 0
CoversLed step r t u result a b = (v : View) → StandsBehind step v t r a → IsCoveredNow v u result b

-- What is left of the first continuation where its next event was set, or could not be: whether there was
-- memory for it.
pub record HasRousedNext (has_memory : Bool) (t u : Option StageContinuation) (a b : Context) : Type 0 where
  pub kept : has_memory ≡ true → IsOfStageIf a.log.state.pending a.roles MAIN t
      → IsOfStageIf b.log.state.pending b.roles MAIN u
  pub roused : has_memory ≡ true → IsRousedIf u ⊎ (GREATEST ≤ b.log.state.next)
  pub lacks : has_memory ≡ false → u ≡ None
  pub later : a.log.state.next ≤ b.log.state.next
