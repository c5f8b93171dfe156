-- How a body begins to be passed on: the transforms of the lines that act on it are made, and the client's
-- head is queued (Developer's Guide, "Transformations").
use Rattle.std.specs.Prelude.{◌≡◌, ℕ, ◌+◌, ◌<◌, ◌≤◌, ◌⊎◌, List, [], length, true, false, Option, None, ⊤}
use Rattle.std.specs.Arc.{arc_value}
use Rattle.ts_config.specs.declared.setup.Setup.{Setup}
use Rattle.ts_hooks.specs.declared.txn_end.TxnEnd.TheVariants as E
use Rattle.ts_journal.specs.declared.entry.TheConstants.{GREATEST}
use Rattle.ts_group.specs.Context.{Context}
use Rattle.ts_link.specs.Link.{all_of}
use Rattle.ts_link.specs.declared.link.Link as link
use Rattle.ts_upstream.specs.declared.upstream.Upstream as upstream
use Rattle.ts_transform.specs.Flow.{ChainState, EndsInOrder, pause_at}
use Rattle.ts_transform.specs.declared.pump.Stage.{Stage}
use Rattle.ts_transform.specs.Driving.{ActsWithin, IsOfStageIf}
use Rattle.ts_transform.specs.Driven.{IsDrivenWhile}
use Rattle.ts_transform.specs.Seats.{KeepsSeated}
use Rattle.ts_transform.specs.declared.continuation.StageContinuation.{StageContinuation}
use Rattle.ts_transform.specs.declared.driven.DrivenChain.{DrivenChain}
use Rattle.ts_transform.specs.declared.transform.Transform as transform
use Rattle.ts_wire.specs.declared.heads.RequestHead.{RequestHead}
use Rattle.ts_wire.specs.declared.heads.ResponseHead.{ResponseHead}
use Rattle.ts_wire.specs.declared.body.BodyState.{BodyState}
use Rattle.ts_wire.specs.declared.body.BodyState.TheVariants as B
use Rattle.ts_wire.specs.Place.{IsFed, Place}
use Rattle.ts_block.specs.Relayed.{framing_of}
use Rattle.ts_block.specs.Block.{body_lines}
use Rattle.ts_phases.specs.View.{OriginRefuses, View, view_of}
use Rattle.ts_phases.specs.Holding.{IfTold}
use Rattle.ts_phases.specs.Ends.{EndFact}
use Rattle.ts_relay.specs.Duties.{relay_seats}
use Rattle.ts_relay.specs.Relaying.{ReadsBody, SendsBody, set_by_stage}
use Rattle.ts_passing.specs.Sends.{Sends}
use Rattle.ts_relay.specs.declared.last_writes.BodyStep.{BodyStep}
use Rattle.ts_relay.specs.declared.last_writes.BodyStep.TheVariants as S
use Rattle.ts_phases.specs.declared.parts.Core.{Core}
use Rattle.ts_phases.specs.declared.phase.Request.{Request}
use Rattle.ts_relay.specs.declared.relay.Relay.{Relay}
use Rattle.ts_relay.specs.declared.relay.TheConstants.{FIRST, READER}

-- no continuation was made, nothing was given to the chain, and no stage has ended
pub record IsUnbegun {P : Type 0} (r : Relay P) : Type 0 where
  pub no_stage : r.driven.table.items ≡ []
  pub stopped : r.driven.running ≡ false
  pub no_reader : r.reader ≡ None
  pub going : r.driven.chain.given ≡ false
  pub goes_on : r.short ≡ None
  pub in_order : EndsInOrder true r.driven.chain.stages

-- no stage pauses between two of its events
abbrev pub PausesNowhere : {P : Type 0} → (P → ℕ) → List (Stage P) → Type 0
PausesNowhere pause ss = (j : ℕ) → j < length ss → pause_at pause ss j ≡ 0

-- it is known of a body whether a stage that it goes through pauses, and no piece of it was fed
pub record KnowsPauses {P : Type 0} (pause : P → ℕ) (r : Relay P) : Type 0 where
  pub some : r.pauses ≡ true → PausesNowhere pause r.driven.chain.stages → ⊥
  pub none : r.pauses ≡ false → PausesNowhere pause r.driven.chain.stages
  pub unfed : r.fed ≡ 0

-- The body of this response is passed on through its lines, and nothing was begun.
pub record IsFreshRelay {P L : Type 0} (stage : transform.Ghosts P L) (setup : Setup) (q : RequestHead)
    (h : ResponseHead) (r : Relay P) : Type 0 where
  pub sends : Sends stage.rest stage.soon (body_lines setup q h) [] [] r.driven.chain
  pub fed : IsFed (framing_of q h) [] [] r.body
  pub unbegun : IsUnbegun r

module _ (setup : Setup) (refuses : Type 0) where
  -- The client's head is queued, and nothing of the body was read.
  pub record EntersBody {P L : Type 0} (stage : transform.Ghosts P L) (v : View) (c : ChainState P)
      (place : Place) : Type 0 where
    pub q : Request
    pub h : ResponseHead
    pub read : List ℕ
    pub reads : ReadsBody setup refuses q h (all_of v.client.look) v.dialed v.origin place read
    pub going : c.given ≡ false
    pub sends : SendsBody setup refuses q h stage v.client v.sent c read

-- no call was made on either link, and what they gave is kept
pub record CallsNeither (v w : View) : Type 0 where
  pub client : w.client.look ≡ v.client.look
  pub held : w.client.inbox ≡ v.client.inbox
  pub origin : w.origin ≡ v.origin

-- the chain begins with its end where there is no body; nothing is bad before its first byte
abbrev pub GetsStart : {P : Type 0} → BodyState → ChainState P → ChainState P → Type 0
GetsStart B.Unfinished c d = d ≡ c
GetsStart B.Ended c d = d ≡ record c { given = true }
GetsStart B.Bad c d = ⊥

-- a chain runs from now on, or the event numbers are used up, or memory lacks
abbrev pub BeginsRunning : {P : Type 0} → BodyStep → DrivenChain P → Context → Type 0
BeginsRunning S.Goes d now = (d.running ≡ true) ⊎ (GREATEST ≤ now.log.state.next)
BeginsRunning S.Lacks d now = ⊤
BeginsRunning step d now = ⊥

-- What is left where a chain was started: its stages have the roles from the first on.
pub record BeginsChain {P : Type 0} (step : BodyStep) (most : ℕ) (d : DrivenChain P)
    (a b : Context) : Type 0 where
  pub within : ActsWithin most a b
  pub made : (role : ℕ) (t : Option StageContinuation) → IsOfStageIf a.log.state.pending a.roles role t
      → IsOfStageIf b.log.state.pending b.roles role t
  pub driven : IsDrivenWhile FIRST d b.log.state.pending b.roles
  pub runs : BeginsRunning step d b
  pub seated : KeepsSeated [] d.table.items a b

-- And the reader has a role of its own: whatever was set is of one of these.
pub record BeginsRelay {P : Type 0} (step : BodyStep) (stages : ℕ) (r : Relay P) (a b : Context)
    : Type 0 where
  pub chain : BeginsChain step (stages + set_by_stage) r.driven a b
  pub of_reader : IsOfStageIf b.log.state.pending b.roles READER r.reader
  pub seated : KeepsSeated [] (relay_seats r) a b
  pub ordered : EndsInOrder true r.driven.chain.stages
  pub goes_on : r.short ≡ None

module _ {C O : Type 0} (client : link.Ghosts C) (origin : link.Ghosts O) (both : upstream.Ghosts O C) where
  -- memory lacked
  abbrev pub LacksAfter : Core C O → Core C O → Type 0
  LacksAfter old new = IfTold client.tells origin.tells
      (EndFact (arc_value old.setup) (OriginRefuses client both old) (view_of client origin new)
      E.NoMemory)

module _ {C O P L : Type 0} (client : link.Ghosts C) (origin : link.Ghosts O) (both : upstream.Ghosts O C)
    (stage : transform.Ghosts P L) where
  -- the client's head is queued
  abbrev pub EnterHolds : Core C O → Relay P → Type 0
  EnterHolds t r = IfTold client.tells origin.tells
      (EntersBody (arc_value t.setup) (OriginRefuses client both t) stage (view_of client origin t)
      r.driven.chain r.body)

  -- What the origin refuses is what it refused before.
  abbrev pub EntersAfter : Core C O → Core C O → Relay P → Type 0
  EntersAfter old new r = IfTold client.tells origin.tells
      (EntersBody (arc_value old.setup) (OriginRefuses client both old) stage
      (view_of client origin new) r.driven.chain r.body)
