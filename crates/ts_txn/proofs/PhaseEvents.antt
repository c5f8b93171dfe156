-- What the event of a phase leads to, said of the course: a step was made, a plugin is asked, or a body
-- begins.
use Rattle.std.proofs.Common.{◌≡◌, ℕ, ◌≤◌, List, true, Option, arith, refl, sym, subst}
use Rattle.std.proofs.lemmas.Option.{slice_get_within}
use Rattle.std.specs.Arc.{arc_value}
use Rattle.ts_config.specs.declared.setup.Setup.{Setup}
use Rattle.ts_config.specs.declared.setup.TransformLine.{TransformLine}
use Rattle.ts_group.specs.Context.{Context}
use Rattle.ts_group.specs.declared.world.Want.TheVariants as W
use Rattle.ts_link.specs.declared.link.Link as link
use Rattle.ts_upstream.specs.declared.upstream.Upstream as upstream
use Rattle.ts_transform.specs.Driving.{ActsWithin, IsDueAfter, SetsOnly, unroused}
use Rattle.ts_transform.specs.declared.continuation.StageContinuation.{StageContinuation}
use Rattle.ts_transform.specs.declared.transform.Transform as transform
use Rattle.ts_transform.proofs.Kept.{acts_none, acts_then}
use Rattle.ts_plugin.specs.declared.question.HookQuestion.{HookQuestion}
use Rattle.ts_phases.specs.Asking.{AsksFor, IsPluginGroup}
use Rattle.ts_phases.specs.Cover.{StepLeads, set_after}
use Rattle.ts_phases.specs.Leading.{AsksPlugin, BeginsBody, HeadHolds, MakesStep}
use Rattle.ts_phases.specs.Owed.{MayEnter}
use Rattle.ts_phases.specs.View.{upload_of, view_of}
use Rattle.ts_phases.specs.declared.parts.Core.{Core}
use Rattle.ts_phases.specs.declared.phase.Next.TheVariants as N
use Rattle.ts_phases.specs.declared.phase.Phase.{Phase}
use Rattle.ts_phases.specs.declared.phase.Phase.TheVariants as P
use Rattle.ts_phases.specs.declared.phase.Request.{Request}
use Rattle.ts_phases.specs.declared.phase.Step.{Step}
use Rattle.ts_phases.proofs.Causes.{asks_cause, waits_cause}
use Rattle.ts_relay.specs.declared.relay.TheConstants.{MAIN}
use Rattle.ts_relay.proofs.LoweringEvents.{paid_none}
use Rattle.ts_wire.specs.declared.fields.Field.{Field}
use Rattle.ts_wire.specs.declared.heads.ResponseHead.{ResponseHead}
use Rattle.ts_txn.specs.CourseCover.{CoversAlone, IsAlone, LedBehind, StaysOnOrLacks}
use Rattle.ts_txn.specs.Driven.{delay_of}
use Rattle.ts_txn.specs.EventsOwed.{EventOwes}
use Rattle.ts_txn.specs.LoweringCourse.{PaysEvents, PaysToEnter}
use Rattle.ts_txn.specs.World.{HoldsOn, most_set}
use Rattle.ts_txn.specs.declared.course.Course.{Course}
use Rattle.ts_txn.specs.declared.course.Course.TheVariants as K
use Rattle.ts_txn.proofs.Coursing.{behind_led}
use Rattle.ts_phases.proofs.Owed.{all_kept}
use Rattle.ts_txn.proofs.Events.{due_step, takes_ask, takes_step}
use Rattle.ts_txn.proofs.Handling.{after_one, sound_led}
use Rattle.ts_txn.proofs.LoweringCourse.{phase_led}
use Rattle.ts_txn.proofs.Seating.{due_rests}

-- the plugin that is asked is that of a line
asked_group : (setup : Setup) (at : ℕ) (p : Phase) (group : ℕ) (question : HookQuestion)
    → AsksFor setup at p group question → IsPluginGroup setup at group
asked_group setup at p group question asks = record {
  place = asks.in_turn.number;
  there = slice_get_within setup.plugins.items asks.in_turn.number asks.in_turn.line asks.in_turn.there;
  group_is = asks.in_turn.group_is;
}

module _ {C O Q : Type 0} (client : link.Ghosts C) (origin : link.Ghosts O) (both : upstream.Ghosts O C)
    (stage : transform.Ghosts Q TransformLine) (core new : Core C O) (phase : Phase)
    (main u : Option StageContinuation) (a b : Context) (turn : a.log.state.held ≡ true)
    (stands : HoldsOn client origin both stage core (K.Phased phase)) (alone : IsAlone main a) where
  -- ---- a step was made

  module _ (step : Step) (result : Course Q) (made : MakesStep client origin both core new phase step)
      (led : LedBehind step.next (K.Phased step.phase) result) (within : ActsWithin (set_after step.next) a b)
    where
      stays : StaysOnOrLacks (K.Phased step.phase) result
      stays = behind_led step.next (K.Phased step.phase) result led

      few : set_after step.next ≤ 1
      few = after_one step.next

      pub steps_owes : SetsOnly (IsDueAfter (delay_of step.next) a.moment) a b
          → (StepLeads step → CoversAlone main u result a b)
          → EventOwes client origin both stage core new a b MAIN main u (K.Phased phase) result W.Nothing
      steps_owes due covers = record {
        keeps = sound_led client origin both stage core new (K.Phased phase) (K.Phased step.phase) result u b
            stands made.owes.keeps made.fact tt (λ told also. tt) (made.owes.causes stands.causes) stays
            (covers made.leads alone (view_of client origin new));
        within = acts_then 0 (set_after step.next) most_set (omega (arith, few)) (acts_none 0 a turn) within;
        handles = record {
          keeps = made.owes.keeps;
          handles = record {
            next = step.next;
            takes = takes_step client origin both core new phase result step made.leads made.owes.follows
                made.owes.minds made.owes.waits made.owes.leaves led;
            due = due_step client origin both main a b step.next step.phase result stays due;
          };
        };
        rests = tt;
      }

      pub steps_pays : PaysEvents client origin both stage core new (K.Phased phase) result a b
      steps_pays = λ told also.
          phase_led (arc_value core.setup) stage.rest phase step result (view_of client origin core)
          (view_of client origin new) (upload_of both core) (upload_of both new) a.log.state.pending
          b.log.state.pending stays (made.falls told also) within.few.pending

  -- ---- a plugin is asked: no event is set, and nothing is done

  module _ (next : Phase) (group : ℕ) (question : HookQuestion)
      (asks : AsksPlugin client origin both core new phase next group question) where
    pub asks_owes : unroused main ≡ main
        → EventOwes client origin both stage core new a a MAIN main main (K.Phased phase) (K.Phased next)
        (W.Ask group question)
    asks_owes quiet = subst (λ k. EventOwes client origin both stage core k a a MAIN main main
        (K.Phased phase) (K.Phased next) (W.Ask group question)) (sym asks.same) (record {
          keeps = (
            record {
              stands = record {
                holds = asks.fact;
                pair = stands.pair;
                acts = stands.acts;
                lines = tt;
                little = λ told also. tt;
                setup = stands.setup;
                hooks = stands.hooks;
                causes = record {
                  counts = stands.causes.counts;
                  ends = waits_cause (view_of client origin core) next question (asks_cause
                      (view_of client origin core) phase next asks.follows stands.causes.ends);
                };
              };
              alone = alone;
              unroused = quiet;
              asks = asks.asks;
            },
            asked_group (arc_value core.setup) core.plugins_at next group question asks.asks,
          );
          within = acts_none most_set a turn;
          handles = record {
            keeps = all_kept client origin both core;
            handles = record {
              next = N.Go;
              takes = takes_ask client origin both core phase next asks.follows;
              due = due_rests a 0;
            };
          };
          rests = refl;
        })

    pub asks_pays : PaysEvents client origin both stage core new (K.Phased phase) (K.Phased next) a a
    asks_pays = subst (λ k. PaysEvents client origin both stage core k (K.Phased phase) (K.Phased next) a a)
        (sym asks.same) (λ told also.
        paid_none a.log.state.pending a.log.state.pending _ _ asks.falls (omega arith))

-- ---- a body begins, before which the core is as it was

module _ {C O : Type 0} (client : link.Ghosts C) (origin : link.Ghosts O) (both : upstream.Ghosts O C)
    (core mid : Core C O) (phase : Phase) (q : Request) (h : ResponseHead) (fields : List Field)
    (begins : BeginsBody client origin both core mid phase q h fields) where
  pub head_to_enter : HeadHolds client origin both mid q h fields
  head_to_enter = subst (λ k. HeadHolds client origin both k q h fields) (sym begins.same) begins.fact

module _ {C O Q : Type 0} (client : link.Ghosts C) (origin : link.Ghosts O) (both : upstream.Ghosts O C)
    (stage : transform.Ghosts Q TransformLine) where
  pub stands_to_enter : (core mid : Core C O) (phase : Phase)
      → HoldsOn client origin both stage core (K.Phased phase)
      → (q : Request) (h : ResponseHead) (fields : List Field)
      → BeginsBody client origin both core mid phase q h fields
      → HoldsOn client origin both stage mid (K.Phased (P.ResponseTransform q h))
  stands_to_enter core mid phase stands q h fields begins =
      subst (λ k. HoldsOn client origin both stage k (K.Phased (P.ResponseTransform q h))) (sym begins.same)
      (record {
        holds = λ told also. (begins.fact told also).0;
        pair = stands.pair;
        acts = stands.acts;
        lines = tt;
        little = λ told also. tt;
        setup = stands.setup;
        hooks = stands.hooks;
        causes = record { counts = stands.causes.counts; ends = tt };
      })

  module _ (core mid new : Core C O) (phase : Phase) (q : Request) (h : ResponseHead) (fields : List Field)
      (begins : BeginsBody client origin both core mid phase q h fields) (a b : Context)
      (main u : Option StageContinuation) (result : Course Q) where
    pub enters_owes : (MayEnter (arc_value mid.setup).plugins.items phase q h
        → EventOwes client origin both stage mid new a b MAIN main u (K.Phased phase) result W.Nothing)
        → EventOwes client origin both stage core new a b MAIN main u (K.Phased phase) result W.Nothing
    enters_owes owes =
        subst (λ (k : Core C O). MayEnter (arc_value k.setup).plugins.items phase q h
        → EventOwes client origin both stage k new a b MAIN main u (K.Phased phase) result W.Nothing)
        begins.same owes begins.follows

    pub enters_pays : (PaysToEnter client origin both mid phase
        → PaysEvents client origin both stage mid new (K.Phased phase) result a b)
        → PaysEvents client origin both stage core new (K.Phased phase) result a b
    enters_pays pays =
        subst (λ (k : Core C O). PaysToEnter client origin both k phase
        → PaysEvents client origin both stage k new (K.Phased phase) result a b)
        begins.same pays begins.falls
