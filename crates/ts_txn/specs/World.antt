-- What holds of a transaction in its group between calls, and of which transaction a tag speaks.
use Rattle.std.specs.Prelude.{◌≡◌, ℕ, ◌+◌, List, true, false, Option, Some, None, Ok, ⊤}
use Rattle.std.specs.Arc.{arc_value}
use Rattle.ts_config.specs.declared.setup.TransformLine.{TransformLine}
use Rattle.ts_journal.specs.declared.entry.Pending.{Pending}
use Rattle.ts_group.specs.Context.{Context}
use Rattle.ts_group.specs.declared.action.Named.{Named}
use Rattle.ts_group.specs.declared.group.Group.{Group}
use Rattle.ts_hooks.specs.declared.hook.HookAnswer.TheVariants.{Continue}
use Rattle.ts_plugin.specs.declared.question.HookQuestion.{HookQuestion}
use Rattle.ts_plugin.specs.declared.question.HookReply.{HookReply}
use Rattle.ts_link.specs.Link.{IsSure, Look}
use Rattle.ts_link.specs.declared.link.Link as link
use Rattle.ts_upstream.specs.declared.upstream.Upstream as upstream
use Rattle.ts_transform.specs.declared.transform.Transform as transform
use Rattle.ts_transform.specs.declared.continuation.StageContinuation.{StageContinuation}
use Rattle.ts_config.specs.Bytes.{most_transforms}
use Rattle.ts_relay.specs.BodyLinks.{HoldsLittle}
use Rattle.ts_relay.specs.Duties.{set_by_beginning}
use Rattle.ts_txn.specs.Course.{CourseHolds, StandsForCauseOn}
use Rattle.ts_txn.specs.CourseCover.{IsCoveredOn, StaysOnOrLacks, is_fresh_on}
use Rattle.ts_passing.specs.Lines.{ActsAsLines}
use Rattle.ts_phases.specs.Holding.{HasTable, IfTold, IsSameLink}
use Rattle.ts_txn.specs.LoweringCourse.{IsOfLinesOn}
use Rattle.ts_txn.specs.Making.{IsTxnSetup}
use Rattle.ts_phases.specs.View.{IsPaired, StillIf, View, side_if, view_of}
use Rattle.ts_txn.specs.declared.course.Course.{Course}
use Rattle.ts_txn.specs.declared.course.Course.TheVariants as K
use Rattle.ts_phases.specs.declared.parts.Core.{Core}
use Rattle.ts_phases.specs.declared.parts.Peer.{Peer}
use Rattle.ts_phases.specs.declared.phase.Phase.TheVariants as P
use Rattle.ts_txn.specs.declared.txn.Txn.{Txn}
use Rattle.ts_txn.specs.declared.txn.TxnTag.{TxnTag}

-- how many events a transaction sets at most when one is handled: no more than where a body begins that goes
-- through as many stages as there may be transform lines, and one where it is left
abbrev pub most_set : ℕ
most_set = set_by_beginning most_transforms + 1

-- while a body is passed on, little of it is held before it comes to the first stage
abbrev pub HoldsLittleOn : {Q : Type 0} → View → Course Q → Type 0
HoldsLittleOn v (K.Phased p) = ⊤
HoldsLittleOn v (K.Relaying r) = HoldsLittle v r.driven.chain
HoldsLittleOn v (K.Finishing end) = ⊤

module _ {C O Q : Type 0} (client : link.Ghosts C) (origin : link.Ghosts O) (both : upstream.Ghosts O C)
    (stage : transform.Ghosts Q TransformLine) where
  -- What its step may count on: it is where it is with right where its links tell, they belong together, the
  -- transforms do what the lines say, and a body that is passed on goes through such, with little of it held
  -- before them; its setup is one that a transaction takes, and its hooks have the plugins of the lines; and
  -- whether its links tell or not, an end for the fault of one has that cause.
  pub record HoldsOn (core : Core C O) (course : Course Q) : Type 0 where
    pub holds : CourseHolds client origin both stage core course
    pub pair : IsPaired both core
    pub acts : ActsAsLines stage
    pub lines : IsOfLinesOn (arc_value core.setup) stage.rest course
    pub little : IfTold client.tells origin.tells (HoldsLittleOn (view_of client origin core) course)
    pub setup : IsTxnSetup (arc_value core.setup) core.plugins_at
    pub hooks : HasTable core
    pub causes : StandsForCauseOn (view_of client origin core) course

  -- so it stands, and each of its duties has an event
  pub record IsSoundOn (core : Core C O) (main : Option StageContinuation) (course : Course Q)
      (pending : List Pending) (next : ℕ) (roles : List Named) : Type 0 where
    pub stands : HoldsOn core course
    pub covered : IsCoveredOn (view_of client origin core) main course pending next roles

  -- the same of what is pending now
  abbrev pub IsSoundNow : Core C O → Option StageContinuation → Course Q → Context → Type 0
  IsSoundNow core main course now =
      IsSoundOn core main course now.log.state.pending now.log.state.next now.roles

  abbrev pub IsSoundTxn : Txn C O Q → List Pending → ℕ → List Named → Type 0
  IsSoundTxn t pending next roles = IsSoundOn t.core t.main t.course pending next roles

  -- the same of the world of a group
  abbrev pub IsSoundTxnGroup : {A R T U : Type 0} → Group (Txn C O Q) A R T U → Type 0
  IsSoundTxnGroup g = IsSoundNow g.world.core g.world.main g.world.course g.cx

-- no call of the link fails or waits by its number, if there is one
abbrev pub IsSureIf : {L : Type 0} → (L → Look) → Option (Peer L) → Type 0
IsSureIf look None = ⊤
IsSureIf look (Some p) = IsSure (look p.link)

-- both are there, the same link as before, or neither is
abbrev pub IsSameLinkIf : {L : Type 0} → (L → Look) → Option L → Option (Peer L) → Type 0
IsSameLinkIf look None None = ⊤
IsSameLinkIf look None (Some p) = ⊥
IsSameLinkIf look (Some l) None = ⊥
IsSameLinkIf look (Some l) (Some p) = IsSameLink (look l) (look p.link)

-- how many faults the link has met, if there is one
abbrev pub faults_if : {L : Type 0} → (L → Look) → Option L → ℕ
faults_if look None = 0
faults_if look (Some l) = (look l).faults

-- The transaction is the one that the tag names, between the links that the tag shows as they were made: they
-- are still these, and keep their sources, names and plans, and so where they stall and leave; and their
-- faults are counted from then on. Where the tag says so, no call of them fails or waits by its number, and
-- the transaction was started.
pub record IsTxnOf {C O Q : Type 0} (client_link : link.Ghosts C) (origin_link : link.Ghosts O)
    (tag : TxnTag C O) (t : Txn C O Q) : Type 0 where
  pub number : t.core.number ≡ tag.number
  pub setup : arc_value t.core.setup ≡ tag.setup.value
  pub plugins_at : t.core.plugins_at ≡ tag.plugins_at
  pub client : IsSameLink (client_link.look tag.client.value) (client_link.look t.core.client.link)
  pub origin : IsSameLinkIf origin_link.look tag.origin.value t.core.origin
  pub client_still : client_link.still tag.client.value t.core.client.link
  pub origin_still : StillIf origin_link.still tag.origin.value t.core.origin
  pub client_base : t.core.client.base ≡ (client_link.look tag.client.value).faults
  pub origin_base : (side_if origin_link.look t.core.origin).base
      ≡ faults_if origin_link.look tag.origin.value
  pub sure : tag.sure ≡ true
      → IsSure (client_link.look t.core.client.link) × IsSureIf origin_link.look t.core.origin
  pub started : tag.started ≡ true → is_fresh_on t.course ≡ false

-- Where it was not started, it is, or has ended for want of memory; else nothing changed. Now it was started.
pub record HasTxnBegun {C O Q : Type 0} (old new : Txn C O Q) : Type 0 where
  pub core : new.core ≡ old.core
  pub begun : is_fresh_on old.course ≡ true → StaysOnOrLacks (K.Phased P.TxnStart) new.course
  pub same : is_fresh_on old.course ≡ false → new ≡ old
  pub started : is_fresh_on new.course ≡ false

-- Whoever asks it may continue, with the fields as they are: a transaction stands at no hook.
pub record LetsContinue (question : HookQuestion) (reply : HookReply) : Type 0 where
  pub answer : reply.answer ≡ Ok Continue
  pub fields : reply.fields ≡ question.fields
