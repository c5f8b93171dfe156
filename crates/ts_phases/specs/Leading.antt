-- What the event of a phase leads to: a step is made, a plugin of its hook is asked, or the body of a
-- response begins (Developer's Guide, "HTTP Hooks and Transactions" and "Hooks and Transactions").
use Rattle.std.specs.Prelude.{◌≡◌, ℕ, List}
use Rattle.std.specs.Arc.{arc_value}
use Rattle.ts_config.specs.declared.fields.Side.TheVariants as S
use Rattle.ts_link.specs.Link.{NoMore}
use Rattle.ts_link.specs.declared.link.Link as link
use Rattle.ts_upstream.specs.declared.upstream.Upstream as upstream
use Rattle.ts_wire.specs.declared.fields.Field.{Field}
use Rattle.ts_wire.specs.declared.heads.ResponseHead.{ResponseHead}
use Rattle.ts_wire.specs.Forward.{forwarded}
use Rattle.ts_block.specs.Rules.{ruled}
use Rattle.ts_plugin.specs.declared.question.HookQuestion.{HookQuestion}
use Rattle.ts_phases.specs.Asking.{AsksFor, HasFieldsOf, asked_phase}
use Rattle.ts_phases.specs.Cover.{StepLeads}
use Rattle.ts_phases.specs.Facts.{Relays}
use Rattle.ts_phases.specs.Holding.{HoldsAfter, IfTold, PhaseHolds}
use Rattle.ts_phases.specs.Lowering.{StepFallsFrom, enter_left, work_left}
use Rattle.ts_phases.specs.Owed.{MayAsk, MayEnter, StepOwes}
use Rattle.ts_phases.specs.View.{OriginRefuses, upload_of, view_of}
use Rattle.ts_phases.specs.declared.parts.Core.{Core}
use Rattle.ts_phases.specs.declared.phase.Led.{Led}
use Rattle.ts_phases.specs.declared.phase.Led.TheVariants as L
use Rattle.ts_phases.specs.declared.phase.Phase.{Phase}
use Rattle.ts_phases.specs.declared.phase.Request.{Request}
use Rattle.ts_phases.specs.declared.phase.Step.{Step}

module _ {C O : Type 0} (client : link.Ghosts C) (origin : link.Ghosts O) (both : upstream.Ghosts O C) where
  -- the head of a response that is passed on is known, and the fields are those after all header rules
  abbrev pub HeadHolds : Core C O → Request → ResponseHead → List Field → Type 0
  HeadHolds t q h fields = IfTold client.tells origin.tells
      (Relays (arc_value t.setup) (OriginRefuses client both t) (view_of client origin t) q h
      × (fields ≡ ruled S.Response (arc_value t.setup).plugins.items (forwarded h.fields)))

  module _ (old new : Core C O) (phase : Phase) where
    -- a step was made
    pub record MakesStep (step : Step) : Type 0 where
      pub leads : StepLeads step
      pub fact : HoldsAfter client origin both old new step
      pub owes : StepOwes client origin both old new phase step
      pub falls : StepFallsFrom client origin both old new phase step

    -- A plugin is asked: nothing is done but that, with the fields that the plugins before it left, and with
    -- these the phase stands that waits for the reply.
    pub record AsksPlugin (next : Phase) (group : ℕ) (question : HookQuestion) : Type 0 where
      pub same : new ≡ old
      pub asks : AsksFor (arc_value old.setup) old.plugins_at next group question
      pub follows : MayAsk phase next
      pub fields : HasFieldsOf phase question.fields
      pub fact : PhaseHolds client origin both old (asked_phase next question)
      pub falls : NoMore
          (work_left (arc_value old.setup) (upload_of both old) (view_of client origin old) phase)
          (work_left (arc_value old.setup) (upload_of both old) (view_of client origin old) next)

    -- the body of a response begins
    pub record BeginsBody (q : Request) (h : ResponseHead) (fields : List Field) : Type 0 where
      pub same : new ≡ old
      pub follows : MayEnter (arc_value old.setup).plugins.items phase q h
      pub fact : HeadHolds old q h fields
      pub falls : NoMore
          (work_left (arc_value old.setup) (upload_of both old) (view_of client origin old) phase)
          (enter_left (arc_value old.setup) (view_of client origin old))

    abbrev pub LeadsTo : Led → Type 0
    LeadsTo (L.Steps step) = MakesStep step
    LeadsTo (L.Asks next group question) = AsksPlugin next group question
    LeadsTo (L.Enters q h fields) = BeginsBody q h fields
