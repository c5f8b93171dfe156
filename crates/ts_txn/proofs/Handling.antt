-- A transaction is sound again when it was started, and when an event was handled.
use Rattle.std.proofs.Common.{◌≡◌, ◌+◌, ◌<◌, ◌≤◌, length, ap, ◌⊎◌, inl, inr, ℕ, List, [], true, false, Option}
use Rattle.std.proofs.Common.{None, arith, sym, subst, ◌∙◌}
use Rattle.std.specs.Arc.{arc_value}
use Rattle.ts_hooks.specs.declared.txn_end.TxnEnd.{TxnEnd}
use Rattle.ts_transform.specs.Flow.{ChainState}
use Rattle.ts_transform.specs.Stage.{MOST_WAITING}
use Rattle.ts_vconn.specs.declared.moves.TheConstants.{MOST_PULLED}
use Rattle.ts_config.specs.declared.setup.Setup.{Setup}
use Rattle.ts_config.specs.declared.setup.TransformLine.{TransformLine}
use Rattle.ts_journal.specs.declared.entry.Event.{Event}
use Rattle.ts_journal.specs.declared.entry.TheConstants.{GREATEST}
use Rattle.ts_group.specs.declared.action.Named.{Named}
use Rattle.ts_group.specs.Calls.{IsAsked, IsCalled}
use Rattle.ts_group.specs.Context.{Context}
use Rattle.ts_link.specs.declared.link.Link as link
use Rattle.ts_upstream.specs.declared.upstream.Upstream as upstream
use Rattle.ts_transform.specs.declared.transform.Transform as transform
use Rattle.ts_transform.specs.Driving.{IsOfStageIf, unroused, works_at}
use Rattle.ts_transform.specs.declared.continuation.StageContinuation.{StageContinuation}
use Rattle.ts_relay.specs.BodyLinks.{HoldsLittle}
use Rattle.ts_txn.specs.Course.{CourseFact, CourseHolds, StandsForCauseOn, course_after, finish_after}
use Rattle.ts_txn.specs.LoweringCourse.{IsOfLinesOn}
use Rattle.ts_txn.specs.CourseCover.{CoversAlone, HasEventsOn, IsAlone, IsCoveredNow, PassesNoBody}
use Rattle.ts_txn.specs.CourseCover.{ProceedsOn, StaysOnOrLacks, is_fresh_on}
use Rattle.ts_phases.specs.Cover.{set_after}
use Rattle.ts_relay.specs.Duties.{UnlessLacking, WhileGoes}
use Rattle.ts_phases.specs.Holding.{HasTable, IfTold, StepKeeps}
use Rattle.ts_txn.specs.Making.{IsTxnSetup, end_of_course}
use Rattle.ts_plugin.specs.Lines.{IsTableOf}
use Rattle.ts_phases.specs.View.{OriginRefuses, View, view_of}
use Rattle.ts_txn.specs.World.{HoldsLittleOn, HoldsOn, IsSoundNow, IsSoundOn, IsSoundTxn}
use Rattle.ts_txn.specs.declared.course.Course.{Course}
use Rattle.ts_txn.specs.declared.course.Course.TheVariants as K
use Rattle.ts_relay.specs.declared.relay.TheConstants.{MAIN}
use Rattle.ts_relay.specs.declared.last_writes.BodyStep.{BodyStep}
use Rattle.ts_relay.specs.declared.last_writes.BodyStep.TheVariants as S
use Rattle.ts_phases.specs.declared.parts.Core.{Core}
use Rattle.ts_phases.specs.declared.phase.Next.{Next}
use Rattle.ts_phases.specs.declared.phase.Next.TheVariants as N
use Rattle.ts_phases.specs.declared.phase.Phase.TheVariants as P
use Rattle.ts_relay.specs.declared.relay.Relay.{Relay}
use Rattle.ts_txn.specs.declared.txn.Txn.{Txn}
use Rattle.ts_txn.proofs.Causes.{cause_stays, counts_on}
use Rattle.ts_txn.proofs.CourseCalls.{alone_called, at_rest_on, later_covered, on_other, on_quiet}
use Rattle.ts_txn.proofs.CourseCalls.{proceeds_phase}
use Rattle.ts_txn.proofs.Coursing.{course_settled, stays_on}
use Rattle.ts_txn.proofs.Coverage.{fresh_on}
use Rattle.ts_txn.proofs.LoweringCourse.{lines_stay}

-- one that was started and has not ended goes on
goes_on : {Q : Type 0} (course : Course Q) → is_fresh_on course ≡ false → end_of_course course ≡ None
    → ProceedsOn course
goes_on (K.Phased p) started lasts = proceeds_phase p started lasts
goes_on _ started lasts = tt

-- before it was started, nothing is pending but of its first continuation
fresh_alone : {Q : Type 0} (v : View) (main : Option StageContinuation) (course : Course Q) (now : Context)
    → is_fresh_on course ≡ true → IsCoveredNow v main course now → IsAlone main now
fresh_alone {Q} v main course now fresh covered =
    let h : IsCoveredNow {Q = Q} v main (K.Phased P.Fresh) now = subst (λ x. IsCoveredNow v main x now)
    (fresh_on course fresh) covered in
    record { seated = h.seated; plain = h.plain; of_main = by_event h.covered }
  where
    by_event : HasEventsOn {Q = Q} v main (K.Phased P.Fresh) now.log.state.pending now.roles ⊎
        (GREATEST ≤ now.log.state.next)
        → IsOfStageIf now.log.state.pending now.roles MAIN main ⊎ (GREATEST ≤ now.log.state.next)
    by_event (inl has) = inl has.0
    by_event (inr spent) = inr spent

-- at most one event is set behind the step of a phase
pub after_one : (next : Next) → set_after next ≤ 1
after_one N.Go = omega arith
after_one _ = omega arith

-- little is held where a body goes on
pub little_stay : {Q : Type 0} (v : View) (led new : Course Q) → HoldsLittleOn v led → StaysOnOrLacks led new
    → HoldsLittleOn v new
little_stay v led new little (inl same) = subst (λ x. HoldsLittleOn v x) (sym same) little
little_stay v led new little (inr lacks) = subst (λ x. HoldsLittleOn v x) (sym lacks) tt

pub little_after : {Q : Type 0} (v w : View) (step : BodyStep) (r s : Relay Q)
    → UnlessLacking step (HoldsLittle v r.driven.chain → HoldsLittle w s.driven.chain)
    → HoldsLittle v r.driven.chain → HoldsLittleOn w (course_after s step)
little_after v w S.Goes r s holds little = holds little
little_after v w S.Waits r s holds little = holds little
little_after v w _ r s holds little = tt

front_same : (first now most : ℕ) → now ≡ first → first < most → now < most
front_same first now most same less = omega (arith, same, less)

little_first : {P : Type 0} (v : View) (c d : ChainState P) → d.first ≡ c.first → HoldsLittle v c
    → HoldsLittle v d
little_first v c d same little = record {
  held = little.held;
  front = front_same (length c.first)
      (length d.first) (MOST_WAITING + MOST_PULLED) (ap length same) little.front;
}

pub little_begun : {Q : Type 0} (v : View) (step : BodyStep) (r s : Relay Q)
    → WhileGoes step (s.driven.chain.first ≡ r.driven.chain.first)
    → HoldsLittle v r.driven.chain → HoldsLittleOn v (course_after s step)
little_begun v S.Goes r s first little = little_first v r.driven.chain s.driven.chain first little
little_begun v S.Waits r s first little = little_first v r.driven.chain s.driven.chain first little
little_begun v _ r s first little = tt

pub little_last : (Q : Type 0) (v : View) (end : TxnEnd) (step : BodyStep)
    → HoldsLittleOn {Q = Q} v (finish_after end step)
little_last Q v end S.Goes = tt
little_last Q v end _ = tt

-- what is said of a setup and of the group of its first line goes on to hold where both are the same
pub setup_stays : (Holds : Setup → ℕ → Type 0) (setup other : Setup) (at now : ℕ) → other ≡ setup → now ≡ at
    → Holds setup at → Holds other now
setup_stays Holds setup other at now same still holds =
    subst (λ s. Holds s now) (sym same) (subst (λ (n : ℕ). Holds setup n) (sym still) holds)

-- so is the table of its hooks
table_stays : {C O : Type 0} (client : link.Ghosts C) (origin : link.Ghosts O) (both : upstream.Ghosts O C)
    (s t : Core C O) → StepKeeps client origin both s t → HasTable s → HasTable t
table_stays client origin both s t keeps has =
    subst (IsTableOf t.plugins_at (arc_value t.setup).plugins.items) (sym keeps.hooks)
    (setup_stays (λ setup at. IsTableOf at setup.plugins.items s.hooks) (arc_value s.setup) (arc_value t.setup)
    s.plugins_at t.plugins_at (ap (λ x. arc_value {X = Setup} x) keeps.setup) keeps.plugins_at has)

module _ {C O Q : Type 0} (client : link.Ghosts C) (origin : link.Ghosts O) (both : upstream.Ghosts O C)
    (stage : transform.Ghosts Q TransformLine) where
  -- with nothing pending it has ended, or the numbers are used up
  pub at_rest : (t : Txn C O Q) (next : ℕ) (roles : List Named) → is_fresh_on t.course ≡ false
      → end_of_course t.course ≡ None
      → IsSoundTxn client origin both stage t [] next roles → GREATEST ≤ next
  at_rest t next roles started lasts h = at_rest_on (view_of client origin t.core) t.main t.course next roles
      (goes_on t.course started lasts) h.covered

  -- it was started
  pub sound_begun : (t u : Txn C O Q) (a b : Context)
      → IsSoundTxn client origin both stage t a.log.state.pending a.log.state.next
      a.roles → u.core ≡ t.core
      → is_fresh_on t.course ≡ true → StaysOnOrLacks (K.Phased P.TxnStart) u.course
      → CoversAlone t.main u.main u.course a b
      → IsSoundTxn client origin both stage u b.log.state.pending b.log.state.next
      b.roles
  sound_begun t u a b h same fresh led covers =
      let was : CourseHolds client origin both stage t.core (K.Phased P.Fresh) = subst
      (CourseHolds client origin both stage t.core) (fresh_on t.course fresh) h.stands.holds in
      subst (λ k. IsSoundNow client origin both stage k u.main u.course b) (sym same)
      (record {
        stands = record {
          holds = λ told also. stays_on (arc_value t.core.setup) (OriginRefuses client both t.core) stage
              (view_of client origin t.core) (K.Phased P.TxnStart) u.course (was told also) led;
          pair = h.stands.pair;
          acts = h.stands.acts;
          lines = lines_stay (arc_value t.core.setup) stage.rest (K.Phased P.TxnStart) u.course tt led;
          little = λ told also. little_stay (view_of client origin t.core) (K.Phased P.TxnStart) u.course tt
              led;
          setup = h.stands.setup;
          hooks = h.stands.hooks;
          causes = cause_stays (view_of client origin t.core) (K.Phased P.TxnStart) u.course (record {
            counts = counts_on (view_of client origin t.core) t.course h.stands.causes;
            ends = tt;
          }) led;
        };
        covered = covers (fresh_alone (view_of client origin t.core) t.main t.course a fresh h.covered)
            (view_of client origin t.core);
      })

  -- its group was asked, of which it knows nothing
  pub sound_asked : (t : Txn C O Q) (now : Context)
      → IsAsked (λ s roles. IsSoundTxn client origin both stage t s.pending s.next roles)
      now
      → IsSoundTxn client origin both stage t now.log.state.pending now.log.state.next
      now.roles
  sound_asked t now asked =
      subst (λ ps. IsSoundOn client origin both stage t.core t.main t.course ps
      now.log.state.next now.roles) (sym asked.pending) (record {
        stands = asked.sound.stands;
        covered = later_covered (view_of client origin t.core) t.main t.course asked.before.pending
            asked.before.next now.log.state.next now.roles (omega (arith, asked.next)) asked.sound.covered;
      })

  module _ (core : Core C O) (main : Option StageContinuation) (course : Course Q) (none : PassesNoBody course)
      (now : Context) (role : ℕ) (event : Event)
      (c : IsCalled (λ s roles. IsSoundOn client origin both stage core main course
      s.pending s.next roles) now role event) where
    -- an event of another continuation, where no body is passed on
    pub sound_other : (role ≡ MAIN → ⊥) → IsSoundNow client origin both stage core main
        course now
    sound_other other = record {
      stands = c.sound.stands;
      covered = on_other _ (view_of client origin core) main now
          role event c course none other c.sound.covered;
    }

    -- one at which it does not work
    pub sound_quiet : works_at event ≡ false
        → IsSoundNow client origin both stage core main course now
    sound_quiet rests = record {
      stands = c.sound.stands;
      covered = on_quiet _ (view_of client origin core) main now
          role event c course none rests c.sound.covered;
    }

    -- one at which the first continuation makes the next step
    pub alone_then : (t : Option StageContinuation) → t ≡ unroused main → IsAlone t now
    alone_then t is = subst (λ s. IsAlone s now) (sym is)
        (alone_called _ (view_of client origin core) main now role event c course none c.sound.covered)

  -- it was led on
  pub sound_here : (s t : Core C O) (old new : Course Q) (u : Option StageContinuation) (b : Context)
      → HoldsOn client origin both stage s old
      → StepKeeps client origin both s t → CourseHolds client origin both stage t new
      → IsOfLinesOn (arc_value t.setup) stage.rest new
      → IfTold client.tells origin.tells (HoldsLittleOn (view_of client origin t) new)
      → StandsForCauseOn (view_of client origin t) new
      → IsCoveredNow (view_of client origin t) u new b
      → IsSoundNow client origin both stage t u new b
  sound_here s t old new u b stands keeps holds lines little causes covered =
      record {
        stands = record {
          holds = holds;
          pair = keeps.pair stands.pair;
          acts = stands.acts;
          lines =
              lines;
          little = little;
          setup = setup_stays IsTxnSetup (arc_value s.setup) (arc_value t.setup) s.plugins_at t.plugins_at
              (ap (λ x. arc_value x) keeps.setup) keeps.plugins_at stands.setup;
          hooks = table_stays client origin both s t keeps stands.hooks;
          causes = causes;
        };
        covered = covered;
      }

  -- by a step, whose facts speak of what the origin's link refused before it
  pub sound_led : (s t : Core C O) (old led new : Course Q) (u : Option StageContinuation) (b : Context)
      → HoldsOn client origin both stage s old
      → StepKeeps client origin both s t
      → IfTold client.tells origin.tells (CourseFact (arc_value s.setup) (OriginRefuses client both s)
      stage
      (view_of client origin t) led)
      → IsOfLinesOn (arc_value s.setup) stage.rest led
      → IfTold client.tells origin.tells (HoldsLittleOn (view_of client origin t) led)
      → StandsForCauseOn (view_of client origin t) led
      → StaysOnOrLacks led new → IsCoveredNow (view_of client origin t) u new b
      → IsSoundNow client origin both stage t u new b
  sound_led s t old led new u b stands keeps fact lines little causes stays covered =
      sound_here s t old new u b stands keeps
      (λ told also. course_settled client origin both stage s t new keeps
      (stays_on (arc_value s.setup) (OriginRefuses client both s) stage (view_of client origin t) led new
      (fact told also) stays))
      (subst (λ x. IsOfLinesOn (arc_value x) stage.rest new) (sym keeps.setup)
      (lines_stay (arc_value s.setup) stage.rest led new lines stays))
      (λ told also. little_stay (view_of client origin t) led new (little told also) stays)
      (cause_stays (view_of client origin t) led new causes stays) covered
