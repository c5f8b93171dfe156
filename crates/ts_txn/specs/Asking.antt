-- A transaction asks the plugins of its hooks: whom it may ask, which replies are right, what holds of it
-- while it waits for one, and where it is led by what it is told (Developer's Guide, "HTTP Hooks and
-- Transactions").
use Rattle.std.specs.Prelude.{◌≡◌, ℕ, List, false, Option}
use Rattle.std.specs.Arc.{arc_value}
use Rattle.ts_config.specs.declared.setup.TransformLine.{TransformLine}
use Rattle.ts_group.specs.Context.{Context}
use Rattle.ts_group.specs.declared.action.Named.{Named}
use Rattle.ts_group.specs.declared.world.Asked.{Asked}
use Rattle.ts_group.specs.declared.world.Asked.TheVariants.{Missed}
use Rattle.ts_journal.specs.declared.entry.Pending.{Pending}
use Rattle.ts_link.specs.declared.clock.TheConstants.{RETRY_AFTER}
use Rattle.ts_link.specs.declared.link.Link as link
use Rattle.ts_phases.specs.Asking.{AsksFor, IsPluginGroup, IsRightReply, asked_phase, told_step}
use Rattle.ts_phases.specs.declared.parts.Core.{Core}
use Rattle.ts_plugin.specs.declared.question.HookQuestion.{HookQuestion}
use Rattle.ts_plugin.specs.declared.question.HookReply.{HookReply}
use Rattle.ts_transform.specs.declared.continuation.StageContinuation.{StageContinuation}
use Rattle.ts_transform.specs.declared.transform.Transform as transform
use Rattle.ts_transform.specs.Driving.{unroused}
use Rattle.ts_upstream.specs.declared.upstream.Upstream as upstream
use Rattle.ts_txn.specs.CourseCover.{IsAloneWith, LedBehind, is_fresh_on}
use Rattle.ts_txn.specs.World.{HoldsOn}
use Rattle.ts_txn.specs.declared.course.Course.{Course}
use Rattle.ts_txn.specs.declared.course.Course.TheVariants as K
use Rattle.ts_txn.specs.declared.txn.Txn.{Txn}

-- the groups that a transaction may ask: those of the hook plugin lines of its setup
abbrev pub MayAskGroup : {C O Q : Type 0} → Txn C O Q → ℕ → Type 0
MayAskGroup t group = IsPluginGroup (arc_value t.core.setup) t.core.plugins_at group

-- the replies that are right for it: those of the lines
abbrev pub IsRightFor : {C O Q : Type 0} → Txn C O Q → ℕ → HookQuestion → HookReply → Type 0
IsRightFor t group question reply =
    IsRightReply (arc_value t.core.setup) t.core.plugins_at group question reply

-- a course with the fields of the question put back into its phase
abbrev pub asked_course : {Q : Type 0} → Course Q → HookQuestion → Course Q
asked_course (K.Phased p) question = K.Phased (asked_phase p question)
asked_course course question = course

-- the question is the one that its phase asks, and the group that of the plugin whose turn it is
abbrev pub AsksOn : {C O Q : Type 0} → Core C O → Course Q → ℕ → HookQuestion → Type 0
AsksOn core (K.Phased p) group question = AsksFor (arc_value core.setup) core.plugins_at p group question
AsksOn core course group question = ⊥

module _ {C O Q : Type 0} (client : link.Ghosts C) (origin : link.Ghosts O) (both : upstream.Ghosts O C)
    (stage : transform.Ghosts Q TransformLine) where
  -- It waits for the reply of a group to a question: it stands, but for the event of its next step, which
  -- needs that reply; and no continuation is there but the first.
  pub record AwaitsOn (core : Core C O) (main : Option StageContinuation) (course : Course Q)
      (pending : List Pending) (next : ℕ) (roles : List Named) (group : ℕ) (question : HookQuestion)
      : Type 0 where
    pub stands : HoldsOn client origin both stage core (asked_course course question)
    pub alone : IsAloneWith main pending next roles
    pub unroused : unroused main ≡ main
    pub asks : AsksOn core course group question

  -- the same of what is pending now
  abbrev pub AwaitsNow : Core C O → Option StageContinuation → Course Q → Context → ℕ → HookQuestion → Type 0
  AwaitsNow core main course now group question =
      AwaitsOn core main course now.log.state.pending now.log.state.next now.roles group question

  abbrev pub AwaitsTxn : Txn C O Q → List Pending → ℕ → List Named → ℕ → HookQuestion → Type 0
  AwaitsTxn t pending next roles group question =
      AwaitsOn t.core t.main t.course pending next roles group question

-- where it is led by what it is told: where the step of its phase leads, or to its end for want of memory
abbrev pub LedByTold : {Q : Type 0} → Course Q → Asked HookQuestion HookReply → Course Q → Type 0
LedByTold (K.Phased p) asked new = LedBehind (told_step p asked).next (K.Phased (told_step p asked).phase) new
LedByTold course asked new = ⊥

-- What it was told led it on, and nothing else changed.
pub record HearsTxn {C O Q : Type 0} (old new : Txn C O Q) (asked : Asked HookQuestion HookReply)
    : Type 0 where
  pub core : new.core ≡ old.core
  pub led : LedByTold old.course asked new.course
  pub started : is_fresh_on new.course ≡ false

-- How long after it was told its next step is made, in milliseconds: a plugin that was missed is asked again
-- then.
abbrev pub pause_told : {Q R : Type 0} → Asked Q R → ℕ
pause_told (Missed seen question) = RETRY_AFTER
pause_told asked = 0
