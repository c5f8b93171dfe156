-- The event of the next step where no body is passed on, said of the course on which the transaction was.
use Rattle.std.proofs.Common.{◌≡◌, ℕ, Option, Some, None, ap, refl, subst, sym, ◌∙◌}
use Rattle.ts_config.specs.declared.setup.TransformLine.{TransformLine}
use Rattle.ts_group.specs.Context.{Context}
use Rattle.ts_group.specs.declared.world.Want.{Want}
use Rattle.ts_link.specs.declared.link.Link as link
use Rattle.ts_upstream.specs.declared.upstream.Upstream as upstream
use Rattle.ts_plugin.specs.declared.question.HookQuestion.{HookQuestion}
use Rattle.ts_transform.specs.declared.transform.Transform as transform
use Rattle.ts_transform.specs.Driving.{unroused}
use Rattle.ts_transform.specs.declared.continuation.StageContinuation.{StageContinuation}
use Rattle.ts_phases.specs.declared.parts.Core.{Core}
use Rattle.ts_phases.specs.declared.phase.Phase.{Phase}
use Rattle.ts_relay.specs.declared.relay.TheConstants.{MAIN}
use Rattle.ts_txn.specs.CourseCover.{PassesNoBody}
use Rattle.ts_txn.specs.EventsOwed.{EventOwes}
use Rattle.ts_txn.specs.declared.course.Course.{Course}
use Rattle.ts_txn.specs.declared.course.Course.TheVariants as K
use Rattle.ts_txn.proofs.Events.{handles_alone}

-- the phase that was taken out is the one that stood there
pub phase_taken : {Q : Type 0} (course : Course Q) (p q : Phase) → course ≡ K.Phased p → q ≡ p
    → course ≡ K.Phased q
phase_taken {Q} course p q is same = is ∙ ap {B = Course Q} (λ x. K.Phased x) (sym same)

pub still_quiet : (t u : Option StageContinuation) → u ≡ unroused t → unroused u ≡ u
still_quiet None u is = subst (λ (x : Option StageContinuation). unroused x ≡ x) (sym is) refl
still_quiet (Some t) u is = subst (λ (x : Option StageContinuation). unroused x ≡ x) (sym is) refl

-- the first continuation was unroused before its step
pub owes_alone : {C O Q : Type 0} (client : link.Ghosts C) (origin : link.Ghosts O)
    (both : upstream.Ghosts O C) (stage : transform.Ghosts Q TransformLine) (core new : Core C O)
    (a b : Context) (role : ℕ) (main mid u : Option StageContinuation) → mid ≡ unroused main
    → (course : Course Q) → PassesNoBody course → (result : Course Q) (want : Want HookQuestion)
    → EventOwes client origin both stage core new a b MAIN mid u course result want
    → EventOwes client origin both stage core new a b role main u course result want
owes_alone client origin both stage core new a b role main mid u quiet course none result want h = record {
  keeps = h.keeps;
  rests = h.rests;
  within = h.within;
  handles = handles_alone client origin both core new a b role main mid quiet course none result h.handles;
}
