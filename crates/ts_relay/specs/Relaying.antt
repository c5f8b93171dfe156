-- What holds of a transaction that passes a body on, between two events, for links that tell: what was sent,
-- followed by what the chain still gives, is the lines' work on what was read, followed by what still comes
-- (Developer's Guide, "Transformations"; RFC 9112, sections 6.3 and 8).
use Rattle.std.specs.Prelude.{◌≡◌, ◌≢◌, ℕ, ◌+◌, ◌≤◌, ◌⊎◌, ◌++◌, List, [], Bool, true, false, Option, Some}
use Rattle.std.specs.Prelude.{None, Result, Ok, Err, ⊤}
use Rattle.std.specs.Arc.{arc_value}
use Rattle.ts_journal.specs.declared.entry.Pending.{Pending}
use Rattle.ts_journal.specs.declared.entry.TheConstants.{GREATEST}
use Rattle.ts_group.specs.declared.action.SetFault.{SetFault}
use Rattle.ts_group.specs.declared.action.SetFault.TheVariants as F
use Rattle.ts_group.specs.declared.action.Named.{Named}
use Rattle.ts_group.specs.Context.{Context, role_at}
use Rattle.ts_group.specs.Entries.{Grows}
use Rattle.ts_config.specs.declared.setup.Setup.{Setup}
use Rattle.ts_hooks.specs.declared.txn_end.TxnEnd.{TxnEnd}
use Rattle.ts_hooks.specs.declared.txn_end.TxnEnd.TheVariants as E
use Rattle.ts_link.specs.Link.{all_of}
use Rattle.ts_link.specs.declared.link.Link as link
use Rattle.ts_upstream.specs.declared.upstream.Upstream as upstream
use Rattle.ts_transform.specs.Flow.{ChainState, EndsInOrder}
use Rattle.ts_transform.specs.Driving.{AreNamed, Keeps, SetsFew, SetsOnly}
use Rattle.ts_transform.specs.Driven.{SameSeats, StaysDriven}
use Rattle.ts_transform.specs.declared.continuation.StageContinuation.{StageContinuation}
use Rattle.ts_transform.specs.declared.driven.DrivenChain.{DrivenChain}
use Rattle.ts_transform.specs.declared.loss.Loss.TheVariants as loss
use Rattle.ts_transform.specs.declared.transform.Transform as transform
use Rattle.ts_passing.specs.Sends.{Sends}
use Rattle.ts_wire.specs.declared.heads.ResponseHead.{ResponseHead}
use Rattle.ts_wire.specs.declared.body.BodyState.TheVariants as B
use Rattle.ts_wire.specs.declared.framing.Framing.{Framing}
use Rattle.ts_wire.specs.declared.framing.Framing.TheVariants as G
use Rattle.ts_wire.specs.Place.{Place, IsFed, state_of}
use Rattle.ts_block.specs.Relayed.{framing_of, mode_of}
use Rattle.ts_block.specs.Heads.{FinalHead}
use Rattle.ts_block.specs.Block.{IsGood, body_lines, framing_for, relayed_head}
use Rattle.ts_phases.specs.View.{HasCount, OriginRefuses, LinkSide, View, view_of}
use Rattle.ts_phases.specs.Facts.{Served}
use Rattle.ts_phases.specs.Ends.{HasText, IsBodyOver}
use Rattle.ts_phases.specs.Holding.{IfTold}
use Rattle.ts_relay.specs.Finishing.{LeadsBody}
use Rattle.ts_relay.specs.declared.last_writes.BodyStep.{BodyStep}
use Rattle.ts_relay.specs.declared.last_writes.BodyStep.TheVariants as S
use Rattle.ts_phases.specs.declared.parts.Core.{Core}
use Rattle.ts_relay.specs.declared.relay.Relay.{Relay}
use Rattle.ts_relay.specs.declared.relay.Short.{Short}
use Rattle.ts_relay.specs.declared.relay.Short.TheVariants as K
use Rattle.ts_phases.specs.declared.parts.Sent.{Sent}
use Rattle.ts_phases.specs.declared.phase.Request.{Request}

-- A body that has not ended goes on; or no more of it comes, since its origin has ended, or since it is bad.
abbrev pub IsShort : Framing → LinkSide → Place → Option Short → Type 0
IsShort framing origin place None = state_of place.phase ≡ B.Unfinished
IsShort framing origin place (Some K.Cut) = (state_of place.phase ≡ B.Unfinished)
    × (framing ≢ G.UntilClose) × (origin.look.left ≡ []) × (origin.inbox ≡ [])
IsShort framing origin place (Some K.Bad) = state_of place.phase ≡ B.Bad

-- the end of a transaction whose body stopped short
abbrev pub short_end : Short → TxnEnd
short_end K.Cut = E.OriginCut
short_end K.Bad = E.OriginBad

module _ (setup : Setup) (refuses : Type 0) where
  module _ (q : Request) (h : ResponseHead) where
    -- The origin answered this request with this head, of a body of which so much was read, by a reader
    -- that stands at this place.
    pub record ReadsBody (c : List ℕ) (dialed : Bool) (origin : LinkSide) (place : Place)
        (read : List ℕ) : Type 0 where
      pub served : Served setup refuses c q dialed origin
      pub good : IsGood q.head h
      pub fed : List ℕ
      pub reads : FinalHead origin.look.given h (fed ++ origin.inbox)
      pub is_fed : IsFed (framing_of q.head h) fed read place

    -- The end of the chain's input was given where the body is over, and nowhere else; before, the body goes
    -- on, or stops short of its end.
    pub record GivesEnd (origin : LinkSide) (place : Place) (given : Bool)
        (short : Option Short) : Type 0 where
      pub ended : given ≡ true → (short ≡ None) × IsBodyOver (framing_of q.head h) origin place
      pub goes_on : given ≡ false → IsShort (framing_of q.head h) origin place short

    -- The client's text is the head, and a body that goes on as the chain does.
    pub record SendsBody {P L : Type 0} (stage : transform.Ghosts P L) (client : LinkSide) (s : Sent)
        (c : ChainState P) (read : List ℕ) : Type 0 where
      pub count : HasCount client
      pub some : client.look.given ≢ []
      pub mode : s.mode ≡ mode_of (framing_for setup q.head h)
      pub body : List ℕ
      pub text : HasText client s (relayed_head setup q.head h) body false
      pub sends : Sends stage.rest stage.soon (body_lines setup q.head h) read body c

  -- while the body is passed on, of which no more may come though it has not ended
  pub record RelaysBody {P L : Type 0} (stage : transform.Ghosts P L) (v : View) (c : ChainState P)
      (place : Place) (short : Option Short) : Type 0 where
    pub q : Request
    pub h : ResponseHead
    pub read : List ℕ
    pub reads : ReadsBody q h (all_of v.client.look) v.dialed v.origin place read
    pub gives_end : GivesEnd q h v.origin place c.given short
    pub sends : SendsBody q h stage v.client v.sent c read

-- where a step leads at which an event was set, or could not be: memory lacks, or the event numbers are
-- used up, which ends nothing
abbrev pub step_after : {T : Type 0} → Result T SetFault → BodyStep
step_after (Ok x) = S.Goes
step_after (Err F.Spent) = S.Goes
step_after (Err fault) = S.Lacks

-- What calls leave that set at most so many events: all else goes on.
pub record AddsSome (most : ℕ) (old new : Context) : Type 0 where
  pub grows : Grows old new
  pub keeps : Keeps old new
  pub few : SetsFew most old new

-- a chain is driven as it was, or the event numbers are used up, or memory lacks
abbrev pub DrivesOn : {P : Type 0} → BodyStep → DrivenChain P → DrivenChain P → Context → Type 0
DrivesOn S.Lacks d e now = ⊤
DrivesOn step d e now = (e.running ≡ d.running) ⊎ (GREATEST ≤ now.log.state.next)

-- an event of a continuation whose role is the first of the stages', or behind it
pub record IsOfRoleFrom (first : ℕ) (roles : List Named) (p : Pending) : Type 0 where
  pub place : ℕ
  pub role_is : role_at p.key.index roles ≡ Some (first + place)

-- only such events were set, whatever role of the stages is the first
abbrev pub OnlyOfStages : List (Option StageContinuation) → Context → Context → Type 0
OnlyOfStages ts a b = (first : ℕ) → AreNamed a.roles first ts → SetsOnly (IsOfRoleFrom first a.roles) a b

-- memory lacked, and it is not that the event numbers are used up, which ends nothing
abbrev pub IsNotSpent : {P : Type 0} → BodyStep → DrivenChain P → Type 0
IsNotSpent step e = step ≡ S.Lacks → e.lost ≡ Some loss.Spent → ⊥

-- how many events are set at most where a stage is roused, and where a part of a body comes to the chain,
-- and its end
abbrev pub set_by_stage : ℕ
set_by_stage = 1

abbrev pub set_by_part : ℕ
set_by_part = 2

-- What a step of a body leaves of its chain and of what is pending: each duty of a stage has its event.
pub record StepsChain {P : Type 0} (step : BodyStep) (most : ℕ) (d e : DrivenChain P)
    (old new : Context) : Type 0 where
  pub adds : AddsSome most old new
  pub driven : StaysDriven d e old new
  pub on : DrivesOn step d e new
  pub spent : step ≡ S.Lacks → e.lost ≡ Some loss.Spent → e.lost ≡ d.lost
  pub falls : e.running ≡ true → d.running ≡ true
  pub seats : SameSeats d e old new
  pub only : OnlyOfStages d.table.items old new
  pub ordered : EndsInOrder true d.chain.stages → EndsInOrder true e.chain.stages

module _ {C O P L : Type 0} (client : link.Ghosts C) (origin : link.Ghosts O) (both : upstream.Ghosts O C)
    (stage : transform.Ghosts P L) where
  -- the fact of a transaction whose links tell
  abbrev pub RelayHolds : Core C O → Relay P → Type 0
  RelayHolds t r = IfTold client.tells origin.tells
      (RelaysBody (arc_value t.setup) (OriginRefuses client both t) stage (view_of client origin t)
      r.driven.chain r.body r.short)

  -- What the origin refuses is what it refused before.
  abbrev pub RelayLeads : Core C O → Core C O → Relay P → BodyStep → Type 0
  RelayLeads old new r step = IfTold client.tells origin.tells
      (LeadsBody (arc_value old.setup) (OriginRefuses client both old)
      (RelaysBody (arc_value old.setup) (OriginRefuses client both old) stage
      (view_of client origin new) r.driven.chain r.body r.short)
      (view_of client origin new) step)
