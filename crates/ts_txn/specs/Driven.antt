-- What an event of a transaction leads to, by how far it is: in a phase it makes a step, while a body is
-- passed on a part of that, and then one of the last writes.
use Rattle.std.specs.Prelude.{◌≡◌, ◌⊎◌, ℕ, List, Bool, true, false, Option, ⊤}
use Rattle.std.specs.Arc.{arc_value}
use Rattle.ts_config.specs.declared.fields.PluginLine.{PluginLine}
use Rattle.ts_group.specs.Context.{Context}
use Rattle.ts_group.specs.Entries.{Grows}
use Rattle.ts_hooks.specs.declared.txn_end.TxnEnd.{TxnEnd}
use Rattle.ts_link.specs.declared.link.Link as link
use Rattle.ts_upstream.specs.declared.upstream.Upstream as upstream
use Rattle.ts_transform.specs.Driving.{ActsWithin, IsDueAfter, SetsOnly}
use Rattle.ts_transform.specs.declared.continuation.StageContinuation.{StageContinuation}
use Rattle.ts_relay.specs.BodyLinks.{BeginsInTime, HandlesLinks, MindsBody, SendsRest}
use Rattle.ts_txn.specs.Course.{course_after, finish_after}
use Rattle.ts_phases.specs.Cover.{is_fresh}
use Rattle.ts_txn.specs.CourseCover.{is_fresh_on, CoversLed, LedAfter, StaysOnOrLacks, StaysWhereNamed}
use Rattle.ts_txn.specs.CourseCover.{pause_after}
use Rattle.ts_relay.specs.Duties.{set_leaving, DoesOwnWork}
use Rattle.ts_relay.specs.Entering.{CallsNeither}
use Rattle.ts_phases.specs.Holding.{IfTold, StepKeeps}
use Rattle.ts_phases.specs.Owed.{MayAsk, MayEnter, MayFollow}
use Rattle.ts_phases.specs.Steps.{LeavesSides, MindsLinksIn, WaitsRightly}
use Rattle.ts_phases.specs.View.{View, view_of}
use Rattle.ts_txn.specs.declared.course.Course.{Course}
use Rattle.ts_txn.specs.declared.course.Course.TheVariants as K
use Rattle.ts_txn.specs.declared.course_leads.TheConstants.{AT_ONCE}
use Rattle.ts_link.specs.declared.clock.TheConstants.{RETRY_AFTER}
use Rattle.ts_relay.specs.declared.last_writes.BodyStep.{BodyStep}
use Rattle.ts_relay.specs.declared.last_writes.BodyStep.TheVariants as S
use Rattle.ts_phases.specs.declared.parts.Core.{Core}
use Rattle.ts_phases.specs.declared.phase.Next.{Next}
use Rattle.ts_phases.specs.declared.phase.Next.TheVariants as N
use Rattle.ts_phases.specs.declared.phase.Phase.{Phase}
use Rattle.ts_phases.specs.declared.phase.Phase.TheVariants as P
use Rattle.ts_phases.specs.declared.phase.Request.{Request}
use Rattle.ts_relay.specs.declared.relay.Relay.{Relay}
use Rattle.ts_wire.specs.declared.heads.ResponseHead.{ResponseHead}

-- how long after a step the next one is made, in milliseconds
abbrev pub delay_of : Next → ℕ
delay_of N.Go = 0
delay_of N.Wait = RETRY_AFTER
delay_of N.Done = 0

-- the body is passed on behind this step of it
abbrev pub is_passed_on : BodyStep → Bool
is_passed_on S.Goes = true
is_passed_on S.Waits = true
is_passed_on step = false

-- What is left behind a step of a body: where it led, and the event of the next step, if one was set, is due
-- at once; and each duty of the transaction has its event.
pub record LeavesRelay {Q : Type 0} (step : BodyStep) (r : Relay Q) (new : Course Q)
    (t u : Option StageContinuation) (a b : Context) : Type 0 where
  pub led : LedAfter step (course_after r step) new
  pub within : ActsWithin (set_leaving step) a b
  pub due : SetsOnly (IsDueAfter AT_ONCE a.moment) a b
  pub spent : StaysWhereNamed (course_after r step) r new t a
  pub covered : CoversLed step r t u new a b

-- the same, said of the course on which the body was
abbrev pub LeadsRelay : {Q : Type 0} → BodyStep → Course Q → Course Q → Option StageContinuation
    → Option StageContinuation → Context → Context → Type 0
LeadsRelay step (K.Relaying r) new t u a b = LeavesRelay step r new t u a b
LeadsRelay step _ new t u a b = ⊥

-- a body begins to be passed on where all plugins of its head's hook have answered, and no call is made on a
-- link then
pub record BeginsIn (lines : List PluginLine) (old : Phase) (v w : View) : Type 0 where
  pub request : Request
  pub head : ResponseHead
  pub enters : MayEnter lines old request head
  pub calls : CallsNeither v w

-- A plugin is asked, and the phase waits for its reply.
abbrev pub AsksIn : {Q : Type 0} → Phase → Course Q → Type 0
AsksIn old (K.Phased new) = MayAsk old new
AsksIn old new = ⊥

-- nothing is done, or a plugin is asked
abbrev pub StaysOrAsks : {Q : Type 0} → Phase → Course Q → Type 0
StaysOrAsks {Q} old new = (new ≡ K.Phased old) ⊎ AsksIn old new

-- a transaction that closes ends so, and nothing else comes of it
abbrev pub ClosesAs : {Q : Type 0} → Phase → Course Q → Type 0
ClosesAs (P.TxnClose end) new = (new ≡ K.Phased (P.TxnClose end)) ⊎ (new ≡ K.Phased (P.Ended end))
ClosesAs _ new = ⊤

-- Where a body begins, what is set is of one of its stages, or lets an end of it work at once.
pub record BeginsOnTime {Q : Type 0} (main : Option StageContinuation) (r : Relay Q)
    (a b : Context) : Type 0 where
  pub behind : Context
  pub first : Grows a behind
  pub begins : BeginsInTime main r a behind
  pub then : ActsWithin (set_leaving S.Goes) behind b

-- the event of the next step, if one is set, is due when that step is to be made
abbrev pub DueTo : {Q : Type 0} → Option StageContinuation → Next → Course Q → Context → Context → Type 0
DueTo main next (K.Phased p) a b = SetsOnly (IsDueAfter (delay_of next) a.moment) a b
DueTo main next (K.Relaying r) a b = BeginsOnTime main r a b
DueTo main next (K.Finishing end) a b = ⊥

module _ {C O Q : Type 0} (client : link.Ghosts C) (origin : link.Ghosts O) (both : upstream.Ghosts O C)
    (s t : Core C O) where
  -- where the step of a phase leads: to one that may follow, and the faults and the waits of the links are
  -- minded
  abbrev pub MindsCourse : Phase → Next → Course Q → Type 0
  MindsCourse old next (K.Phased new) = MayFollow (arc_value s.setup).plugins.items old new
      × MindsLinksIn client origin both s t old (record { phase = new; next = next })
  MindsCourse old next (K.Relaying r) =
      BeginsIn (arc_value s.setup).plugins.items old (view_of client origin s) (view_of client origin t)
  MindsCourse old next (K.Finishing end) = ⊥

  -- A step was made, and it is where that led, or has ended for want of memory; also then the links were
  -- minded.
  pub record LeadsOrLacks (old : Phase) (next : Next) (new : Course Q) : Type 0 where
    pub led : Course Q
    pub minds : MindsCourse old next led
    pub stays : StaysOnOrLacks led new

  -- In a phase nothing is done, or a plugin is asked, or a step is made, and it waits for nothing else;
  -- nothing but the request and its upload is sent to the origin; and a transaction that was started stays
  -- so.
  pub record TakesStep (old : Phase) (next : Next) (new : Course Q) : Type 0 where
    pub minds : ((t ≡ s) × StaysOrAsks old new) ⊎ LeadsOrLacks old next new
    pub waits : WaitsRightly next (view_of client origin s) (view_of client origin t)
    pub leaves : IfTold client.tells origin.tells
        (LeavesSides old (view_of client origin s) (view_of client origin t))
    pub closes : ClosesAs old new
    pub started : is_fresh old ≡ false → is_fresh_on new ≡ false

  -- while a body is passed on, a part of that is done
  pub record TakesBody (old : Relay Q) (new : Course Q) : Type 0 where
    pub step : BodyStep
    pub after : Relay Q
    pub led : LedAfter step (course_after after step) new
    pub client_late : Bool
    pub origin_late : Bool
    pub minds : MindsBody client.tells origin.tells (view_of client origin s) (view_of client origin t)
        old after step client_late origin_late

  -- one of the last writes is made
  pub record TakesWrite (end : TxnEnd) (step : BodyStep) (new : Course Q) : Type 0 where
    pub led : StaysOnOrLacks (finish_after end step) new
    pub rest : SendsRest client.tells end (view_of client origin s) (view_of client origin t) step

  -- it is, or nothing is done
  abbrev pub WritesOr : TxnEnd → BodyStep → Course Q → Type 0
  WritesOr end step new =
      ((step ≡ S.Goes) × (t ≡ s) × (new ≡ K.Finishing end)) ⊎ TakesWrite end step new

  -- what one event leads to
  abbrev pub TakesOn : Course Q → Course Q → Type 0
  TakesOn (K.Phased phase) new = (next : Next) × TakesStep phase next new
  TakesOn (K.Relaying r) new = TakesBody r new
  TakesOn (K.Finishing end) new = (step : BodyStep) × WritesOr end step new

  -- it stays the same transaction, of the same links
  pub record TakesEvent (old new : Course Q) : Type 0 where
    pub keeps : StepKeeps client origin both s t
    pub takes : TakesOn old new

  module _ (a b : Context) where
    -- the same, with the moments of the events that are set
    pub record HandlesStep (main : Option StageContinuation) (old : Phase) (new : Course Q) : Type 0 where
      pub next : Next
      pub takes : TakesStep old next new
      pub due : DueTo main next new a b

    -- While a body is passed on, each end of it does its own work; and where it is left, the event of the
    -- next step is due at once.
    pub record HandlesRelay (role : ℕ) (main : Option StageContinuation) (old : Relay Q)
        (new : Course Q) : Type 0 where
      pub step : BodyStep
      pub after : Relay Q
      pub led : LedAfter step (course_after after step) new
      pub behind : Context
      pub own : DoesOwnWork role (view_of client origin s) (view_of client origin t)
      pub first : Grows a behind
      pub then : ActsWithin (set_leaving step) behind b
      pub links : HandlesLinks client.tells origin.tells (view_of client origin s) (view_of client origin t)
          main old after step a behind
      pub due : SetsOnly (IsDueAfter AT_ONCE behind.moment) behind b

    pub record HandlesWrite (end : TxnEnd) (new : Course Q) : Type 0 where
      pub step : BodyStep
      pub takes : WritesOr end step new
      pub due : SetsOnly (IsDueAfter (pause_after step) a.moment) a b

    -- so an event of a role leads it on
    abbrev pub HandlesOn : ℕ → Option StageContinuation → Course Q → Course Q → Type 0
    HandlesOn role main (K.Phased phase) new = HandlesStep main phase new
    HandlesOn role main (K.Relaying r) new = HandlesRelay role main r new
    HandlesOn role main (K.Finishing end) new = HandlesWrite end new

    pub record HandlesEvent (role : ℕ) (main : Option StageContinuation) (old new : Course Q) : Type 0 where
      pub keeps : StepKeeps client origin both s t
      pub handles : HandlesOn role main old new
