-- What an event of a role owes of the transaction that it is handled of.
use Rattle.std.specs.Prelude.{◌≡◌, ℕ, Option, ⊤}
use Rattle.std.specs.Arc.{arc_value}
use Rattle.ts_config.specs.declared.setup.TransformLine.{TransformLine}
use Rattle.ts_group.specs.Answers.{MatchWant}
use Rattle.ts_group.specs.Context.{Context}
use Rattle.ts_group.specs.declared.world.Want.{Want}
use Rattle.ts_link.specs.declared.link.Link as link
use Rattle.ts_phases.specs.Asking.{IsPluginGroup}
use Rattle.ts_phases.specs.declared.parts.Core.{Core}
use Rattle.ts_plugin.specs.declared.question.HookQuestion.{HookQuestion}
use Rattle.ts_transform.specs.Driving.{ActsWithin}
use Rattle.ts_transform.specs.declared.continuation.StageContinuation.{StageContinuation}
use Rattle.ts_transform.specs.declared.transform.Transform as transform
use Rattle.ts_txn.specs.Asking.{AwaitsNow}
use Rattle.ts_txn.specs.Driven.{HandlesEvent}
use Rattle.ts_txn.specs.World.{IsSoundNow, most_set}
use Rattle.ts_txn.specs.declared.course.Course.{Course}
use Rattle.ts_upstream.specs.declared.upstream.Upstream as upstream

-- The transaction stands sound then, or waits for the reply of a plugin that it may ask; few events are set,
-- and it was led on as the event says.
pub record EventOwes {C O Q : Type 0} (client : link.Ghosts C) (origin : link.Ghosts O)
    (both : upstream.Ghosts O C) (stage : transform.Ghosts Q TransformLine) (s t : Core C O) (a b : Context)
    (role : ℕ) (main u : Option StageContinuation) (old new : Course Q) (want : Want HookQuestion)
    : Type 0 where
  -- its facts hold, and each of its duties has an event, but for the step that needs the reply
  pub keeps : MatchWant want (IsSoundNow client origin both stage t u new b) (λ group question.
      AwaitsNow client origin both stage t u new b group question
      × IsPluginGroup (arc_value t.setup) t.plugins_at group)
  -- few events were set
  pub within : ActsWithin most_set a b
  -- where the event led, and when the events that it set are due
  pub handles : HandlesEvent client origin both s t a b role main old new
  -- an event that asks sets none
  pub rests : MatchWant want ⊤ (λ group question. b ≡ a)
