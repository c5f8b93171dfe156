-- A transaction is told what came of its question: it stands again, and its number fell, or it goes on to
-- tell one where the plugin is to be asked again.
use Rattle.std.proofs.Common.{◌≡◌, ◌∙◌, inl, inr, ℕ, ◌+◌, ◌<◌, ◌≤◌, List, length, Bool, true, false, Option}
use Rattle.std.proofs.Common.{Some, None, arith, refl, sym, ap, subst}
use Rattle.std.specs.Prelude.{◌&&◌, not, Result, Ok, Err}
use Rattle.std.specs.Arc.{arc_value}
use Rattle.std.proofs.lemmas.List.Filters.{length-filter_both}
use Rattle.ts_config.specs.declared.fields.PluginLine.{PluginLine}
use Rattle.ts_config.specs.declared.setup.Setup.{Setup}
use Rattle.ts_config.specs.declared.setup.TransformLine.{TransformLine}
use Rattle.ts_group.specs.Answers.{IsAnswer, IsAnswered, StillTells, TellFalls}
use Rattle.ts_group.specs.Context.{Context}
use Rattle.ts_group.specs.declared.world.Asked.{Asked}
use Rattle.ts_group.specs.declared.world.Asked.TheVariants as A
use Rattle.ts_hooks.specs.Hooks.{is_same}
use Rattle.ts_hooks.specs.declared.hook.Hook.{Hook}
use Rattle.ts_hooks.specs.declared.hook.HookAnswer.{HookAnswer}
use Rattle.ts_hooks.specs.declared.hook.HookAnswer.TheVariants.{Continue, Error}
use Rattle.ts_journal.specs.declared.entry.Pending.{Pending}
use Rattle.ts_link.specs.declared.link.Link as link
use Rattle.ts_upstream.specs.declared.upstream.Upstream as upstream
use Rattle.ts_wire.specs.declared.fields.Field.{Field}
use Rattle.ts_transform.specs.Driving.{ActsWithin, IsDueAfter, SetsOnly}
use Rattle.ts_transform.specs.declared.continuation.StageContinuation.{StageContinuation}
use Rattle.ts_transform.specs.declared.transform.Transform as transform
use Rattle.ts_transform.proofs.Kept.{acts_none, acts_then}
use Rattle.ts_plugin.specs.Lines.{lines_at}
use Rattle.ts_plugin.specs.Replies.{hook_of}
use Rattle.ts_plugin.specs.declared.question.HookQuestion.{HookQuestion}
use Rattle.ts_plugin.specs.declared.question.HookReply.{HookReply}
use Rattle.ts_plugin.specs.declared.question.PluginFault.{PluginFault}
use Rattle.ts_plugin.proofs.HookLines.{next_within}
use Rattle.ts_phases.specs.Asking.{AsksFor, AsksPlugins, IsRightReply, asked_phase, continued_step}
use Rattle.ts_phases.specs.Asking.{most_places, place_in, question_in, refused_step, replied_step, told_step}
use Rattle.ts_phases.specs.Cover.{StepLeads, set_after}
use Rattle.ts_phases.specs.Lowering.{ToldLowers, if_told, number_left, work_left}
use Rattle.ts_phases.specs.View.{OriginRefuses, View, upload_of, view_of}
use Rattle.ts_phases.specs.declared.parts.Core.{Core}
use Rattle.ts_phases.specs.declared.phase.Next.{Next}
use Rattle.ts_phases.specs.declared.phase.Phase.{Phase}
use Rattle.ts_phases.specs.declared.phase.Phase.TheVariants as P
use Rattle.ts_phases.specs.declared.phase.Step.{Step}
use Rattle.ts_phases.proofs.Causes.{told_cause}
use Rattle.ts_phases.proofs.Hearing.{told_fact, told_leads, told_lowers}
use Rattle.ts_txn.specs.Asking.{AsksOn, AwaitsNow, LedByTold, pause_told}
use Rattle.ts_txn.specs.CourseCover.{CoversAlone, LedBehind, StaysOnOrLacks, is_fresh_on}
use Rattle.ts_txn.specs.Driven.{delay_of}
use Rattle.ts_txn.specs.LoweringCourse.{course_left, number_if, transaction_left}
use Rattle.ts_txn.specs.World.{IsSoundNow}
use Rattle.ts_txn.specs.declared.course.Course.{Course}
use Rattle.ts_txn.specs.declared.course.Course.TheVariants as K
use Rattle.ts_txn.specs.declared.making.TheConstants.{MOST_PLUGINS}
use Rattle.ts_txn.proofs.Coursing.{behind_led}
use Rattle.ts_phases.proofs.Owed.{all_kept}
use Rattle.ts_txn.proofs.Events.{stays_started, steps_started}
use Rattle.ts_txn.proofs.Handling.{after_one, sound_led}
use Rattle.ts_txn.proofs.LoweringCourse.{if_both, phase_led}

-- ---- a number goes on to be told

still_same : (before now : List Pending) (m : Option ℕ)
    → StillTells (number_left before m) (number_left now m)
still_same before now None = tt
still_same before now (Some x) = tt

still_ended : (before now : List Pending) (agains upload : Option ℕ) (f : ℕ → ℕ → ℕ)
    → StillTells (number_left before (if_told agains upload f))
    (number_left now (if_told agains (Some 0) (λ x y. 0)))
still_ended before now None upload f = tt
still_ended before now (Some x) None f = tt
still_ended before now (Some x) (Some y) f = tt

still_if : (told : Bool) (m n : Option ℕ) → StillTells m n → StillTells (number_if told m) (number_if told n)
still_if true m n still = still
still_if false m n still = tt

module _ {Q : Type 0} (setup : Setup) (rest : Q → List ℕ → List ℕ) (v : View) (upload : Option ℕ)
    (p q : Phase) (same : work_left setup upload v q ≡ work_left setup upload v p) where
  -- it waits in a phase with the same work, or has ended
  still_led : (new : Course Q) (before now : List Pending) → StaysOnOrLacks (K.Phased q) new
      → StillTells (number_left before (work_left setup upload v p))
      (number_left now (course_left setup rest upload v new))
  still_led new before now (inl is) =
      subst (λ (c : Course Q). StillTells (number_left before (work_left setup upload v p))
      (number_left now (course_left setup rest upload v c))) (sym is)
      (subst (λ (m : Option ℕ). StillTells (number_left before (work_left setup upload v p))
      (number_left now m))
      (sym same) (still_same before now (work_left setup upload v p)))
  still_led new before now (inr lacks) =
      subst (λ (c : Course Q). StillTells (number_left before (work_left setup upload v p))
      (number_left now (course_left setup rest upload v c))) (sym lacks) (still_ended before now _ _ _)

-- ---- the place of a question

some_same : {A : Type 0} (x y : A) → Some x ≡ Some y → x ≡ y
some_same x y is = let both : Some x ≡ Some y = is in let one : x ≡ y = cc in one

-- it is that of the phase
place_of : (p : Phase) (question : HookQuestion) (e : ℕ × HookQuestion)
    → question_in (asked_phase p question) ≡ Some e → place_in p ≡ e.0
place_of (P.OsDns q k) question e is = ap (λ (d : ℕ × HookQuestion). d.0) (some_same _ e is)
place_of (P.RuleRequest q k fields) question e is = ap (λ (d : ℕ × HookQuestion). d.0) (some_same _ e is)
place_of (P.RuleResponse q h k fields) question e is = ap (λ (d : ℕ × HookQuestion). d.0) (some_same _ e is)
place_of (P.RuleAnswer a k fields) question e is = ap (λ (d : ℕ × HookQuestion). d.0) (some_same _ e is)
place_of _ question e is = absurd (cc)

-- in which plugins are asked
asks_of : (p : Phase) (question : HookQuestion) (e : ℕ × HookQuestion)
    → question_in (asked_phase p question) ≡ Some e → AsksPlugins p
asks_of (P.OsDns q k) question e is = tt
asks_of (P.RuleRequest q k fields) question e is = tt
asks_of (P.RuleResponse q h k fields) question e is = tt
asks_of (P.RuleAnswer a k fields) question e is = tt
asks_of _ question e is = absurd (cc)

-- and no hook has more plugins than there are lines
few_at : (hook : Hook) (lines : List PluginLine) → length (lines_at hook lines) ≤ length lines
few_at hook lines =
    omega (
      arith,
      length-filter_both (λ l. is_same (hook_of l) hook) (λ l. not (is_same (hook_of l) hook))
          (λ l. refl) lines,
    )

room_for : (place found all : ℕ) → place + 1 ≤ found → found ≤ all → all ≤ MOST_PLUGINS → place < most_places
room_for place found all next few most = omega (arith, next, few, most)

-- ---- in a phase

module _ {C O Q : Type 0} (client : link.Ghosts C) (origin : link.Ghosts O) (both : upstream.Ghosts O C)
    (stage : transform.Ghosts Q TransformLine) (core : Core C O) (p : Phase) (group : ℕ)
    (question : HookQuestion) (asked : Asked HookQuestion HookReply)
    (right : IsAnswer (IsRightReply (arc_value core.setup) core.plugins_at) group question asked)
    (main u : Option StageContinuation) (a b : Context) (new : Course Q)
    (waits : AwaitsNow client origin both stage core main (K.Phased p) a group question)
    (led : LedBehind (told_step p asked).next (K.Phased (told_step p asked).phase) new) where
  leads : StepLeads (told_step p asked)
  leads = told_leads (arc_value core.setup) core.plugins_at group question p asked waits.asks

  stays : StaysOnOrLacks (K.Phased (told_step p asked).phase) new
  stays = behind_led (told_step p asked).next (K.Phased (told_step p asked).phase) new led

  sound_here : (StepLeads (told_step p asked) → CoversAlone main u new a b)
      → IsSoundNow client origin both stage core u new b
  sound_here covers =
      sound_led client origin both stage core core (K.Phased (asked_phase p question))
      (K.Phased (told_step p asked).phase) new u b waits.stands (all_kept client origin both core)
      (λ told also. told_fact (arc_value core.setup) core.plugins_at group question
      (OriginRefuses client both core) (view_of client origin core) p asked (waits.stands.holds told also)
      waits.asks right)
      tt (λ told also. tt)
      (record {
        counts = waits.stands.causes.counts;
        ends = told_cause (view_of client origin core) p question asked waits.stands.causes.ends;
      })
      stays (covers leads waits.alone (view_of client origin core))

  started_here : is_fresh_on new ≡ false
  started_here = stays_started (K.Phased (told_step p asked).phase) new
      (steps_started (told_step p asked).next (told_step p asked).phase leads) stays

-- what is left is no more, or still told
module _ {C O Q : Type 0} (client : link.Ghosts C) (origin : link.Ghosts O) (both : upstream.Ghosts O C)
    (stage : transform.Ghosts Q TransformLine) (core : Core C O) (p : Phase) (group : ℕ)
    (question : HookQuestion) where
  told_here : (asked : Asked HookQuestion HookReply)
      → AsksFor (arc_value core.setup) core.plugins_at p group question
      → ToldLowers asked (told_step p asked).next
      (work_left (arc_value core.setup) (upload_of both core) (view_of client origin core) p)
      (work_left (arc_value core.setup) (upload_of both core) (view_of client origin core)
      (told_step p asked).phase)
  told_here asked asks =
      told_lowers (arc_value core.setup) core.plugins_at group question (upload_of both core)
      (view_of client origin core) p asked asks

  lowers_here : (asked : Asked HookQuestion HookReply) (new : Course Q) (before now : List Pending)
      → AsksFor (arc_value core.setup) core.plugins_at p group question
      → StaysOnOrLacks (K.Phased (told_step p asked).phase) new
      → length now ≤ length before + set_after (told_step p asked).next
      → TellFalls asked (transaction_left client origin both stage core (K.Phased p) before)
      (transaction_left client origin both stage core new now)
  lowers_here (A.Missed seen q) new before now asks stays few =
      still_if (client.tells && origin.tells) _ _
      (still_led (arc_value core.setup) stage.rest (view_of client origin core) (upload_of both core) p
      (asked_phase p q) (told_here (A.Missed seen q) asks) new before now stays)
  lowers_here (A.Reply reply) new before now asks stays few =
      if_both client origin both stage client.tells origin.tells _ _ 0 (λ told also.
      phase_led (arc_value core.setup) stage.rest p (told_step p (A.Reply reply)) new
      (view_of client origin core) (view_of client origin core) (upload_of both core) (upload_of both core)
      before now stays
      (told_here (A.Reply reply) asks) few)
  lowers_here (A.NoMemory q) new before now asks stays few =
      if_both client origin both stage client.tells origin.tells _ _ 0 (λ told also.
      phase_led (arc_value core.setup) stage.rest p (told_step p (A.NoMemory q)) new
      (view_of client origin core) (view_of client origin core) (upload_of both core) (upload_of both core)
      before now stays
      (told_here (A.NoMemory q) asks) few)

-- ---- the moment of the next step

continued_pause : (p : Phase) (fields : List Field) → delay_of (continued_step p fields).next ≡ 0
continued_pause (P.OsDns q place) fields = refl
continued_pause (P.RuleRequest q place none) fields = refl
continued_pause (P.RuleResponse q h place none) fields = refl
continued_pause (P.RuleAnswer a place none) fields = refl
continued_pause _ fields = refl

refused_pause : (p : Phase) (fields : List Field) → delay_of (refused_step p fields).next ≡ 0
refused_pause (P.OsDns q place) fields = refl
refused_pause (P.RuleRequest q place none) fields = refl
refused_pause p fields = continued_pause p fields

replied_pause : (p : Phase) (answer : Result HookAnswer PluginFault) (fields : List Field)
    → delay_of (replied_step p answer fields).next ≡ 0
replied_pause p (Ok Continue) fields = continued_pause p fields
replied_pause p (Ok Error) fields = refused_pause p fields
replied_pause p (Err fault) fields = refl

told_pause : (p : Phase) (asked : Asked HookQuestion HookReply)
    → delay_of (told_step p asked).next ≡ pause_told asked
told_pause p (A.Reply reply) = replied_pause p reply.answer reply.fields
told_pause p (A.Missed seen question) = refl
told_pause p (A.NoMemory question) = refl

-- ---- the same, said of the course on which it waited, and of the step that was made

module _ {C O Q : Type 0} (client : link.Ghosts C) (origin : link.Ghosts O) (both : upstream.Ghosts O C)
    (stage : transform.Ghosts Q TransformLine) (core : Core C O) (main : Option StageContinuation)
    (course : Course Q) (a : Context) (asked : Asked HookQuestion HookReply)
    (waits : IsAnswered (AwaitsNow client origin both stage core main course a)
    (IsRightReply (arc_value core.setup) core.plugins_at) asked) where
  -- it waits in a phase
  pub asks_phased : ((p : Phase) → course ≡ K.Phased p → ⊥) → ⊥
  asks_phased other = by_course course waits.asking.asks other
    where
      by_course : (x : Course Q) → AsksOn core x waits.group waits.question
          → ((p : Phase) → x ≡ K.Phased p → ⊥) → ⊥
      by_course (K.Phased p) asks other = other p refl
      by_course _ asks other = asks

  module _ (p : Phase) (is : course ≡ K.Phased p) where
    awaits : AwaitsNow client origin both stage core main (K.Phased p) a waits.group waits.question
    awaits = subst (λ x. AwaitsNow client origin both stage core main x a waits.group waits.question) is
        waits.asking

    -- in which plugins are asked
    pub asks_told : AsksPlugins p
    asks_told = asks_of p waits.question (awaits.asks.place, waits.question) awaits.asks.asked

    -- whose place is one that is counted
    pub room_told : place_in p < most_places
    room_told =
        let lines = (arc_value core.setup).plugins.items in
        let asks = awaits.asks in
        subst (λ (n : ℕ). n < most_places)
        (sym (place_of p waits.question (asks.place, waits.question) asks.asked))
        (room_for asks.place (length (lines_at waits.question.hook lines)) (length lines)
        (next_within waits.question.hook core.plugins_at lines asks.place waits.group asks.in_turn)
        (few_at waits.question.hook lines) awaits.stands.setup.few.plugins)

    module _ (step : Step) (made : step ≡ told_step p asked) (new : Course Q)
        (led : LedBehind step.next (K.Phased step.phase) new) (u : Option StageContinuation) (b : Context)
      where
        led_told : LedBehind (told_step p asked).next (K.Phased (told_step p asked).phase) new
        led_told = subst (λ (s : Step). LedBehind s.next (K.Phased s.phase) new) made led

        -- it stands again
        pub told_sound : (StepLeads step → CoversAlone main u new a b)
            → IsSoundNow client origin both stage core u new b
        told_sound covers =
            sound_here client origin both stage core p waits.group waits.question asked waits.answer main u a b
            new awaits led_told (subst (λ (s : Step). StepLeads s → CoversAlone main u new a b) made covers)

        -- what it was told led it on
        pub told_led : LedByTold course asked new
        told_led = subst (λ x. LedByTold x asked new) (sym is) led_told

        pub told_started : is_fresh_on new ≡ false
        told_started =
            started_here client origin both stage core p waits.group waits.question asked waits.answer main u a
            b new awaits led_told

        -- its number fell, or is told still
        pub hears_falls : ActsWithin (set_after step.next) a b
            → TellFalls asked (transaction_left client origin both stage core course a.log.state.pending)
            (transaction_left client origin both stage core new b.log.state.pending)
        hears_falls within =
            subst (λ x. TellFalls asked (transaction_left client origin both stage core x a.log.state.pending)
            (transaction_left client origin both stage core new b.log.state.pending)) (sym is)
            (lowers_here client origin both stage core p waits.group waits.question asked new
            a.log.state.pending b.log.state.pending awaits.asks
            (behind_led (told_step p asked).next (K.Phased (told_step p asked).phase) new led_told)
            (subst (λ (s : Step). length b.log.state.pending ≤ length a.log.state.pending + set_after s.next)
            made within.few.pending))

        -- the plugin that was missed is asked again later
        pub told_due : SetsOnly (IsDueAfter (delay_of step.next) a.moment) a b
            → SetsOnly (IsDueAfter (pause_told asked) a.moment) a b
        told_due due =
            subst (λ (n : ℕ). SetsOnly (IsDueAfter n a.moment) a b)
            (ap (λ (s : Step). delay_of s.next) made ∙ told_pause p asked) due

-- at most one event was set
pub told_within : (next : Next) (a b : Context) → a.log.state.held ≡ true → ActsWithin (set_after next) a b
    → ActsWithin 1 a b
told_within next a b turn within =
    let few : set_after next ≤ 1 = after_one next in
    acts_then 0 (set_after next) 1 (omega (arith, few)) (acts_none 0 a turn) within
