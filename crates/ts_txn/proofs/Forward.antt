-- What is kept where an event of a continuation is brought forward: whoever had an event at which a stage
-- works has one.
use Rattle.std.proofs.Common.{◌≡◌, ◌≢◌, ◌⊎◌, inl, inr, ℕ, ◌+◌, ◌*◌, ◌≤◌, List, [], ◌∷◌, length, Bool}
use Rattle.std.proofs.Common.{true, false}
use Rattle.std.proofs.Common.{Option, Some, None, Result, Ok, Err, eqb, arith, refl, sym, ap, subst, ◌∙◌}
use Rattle.std.proofs.lemmas.Bool.Decides.{eqb_tells}
use Rattle.std.specs.Prelude.{◌&&◌}
use Rattle.ts_config.specs.declared.setup.TransformLine.{TransformLine}
use Rattle.ts_journal.specs.declared.entry.TheConstants.{GREATEST}
use Rattle.ts_journal.specs.declared.entry.ContKey.{ContKey}
use Rattle.ts_journal.specs.declared.entry.Event.TheVariants.{Immediate}
use Rattle.ts_journal.specs.declared.entry.Pending.{Pending}
use Rattle.ts_journal.specs.State.{State, pending_at}
use Rattle.ts_journal.specs.Machine.{IsValid}
use Rattle.ts_journal.specs.Log.{IsSameLog}
use Rattle.ts_journal.proofs.Events.{is_known}
use Rattle.ts_group.specs.declared.action.SetFault.{SetFault}
use Rattle.ts_group.specs.Answers.{Falls}
use Rattle.ts_group.specs.Changes.{first_event}
use Rattle.ts_group.specs.Context.{AllPlain, Context, IsOrderly, role_at}
use Rattle.ts_group.specs.Late.{HasHastened, Hastens}
use Rattle.ts_link.specs.declared.link.Link as link
use Rattle.ts_upstream.specs.declared.upstream.Upstream as upstream
use Rattle.ts_transform.specs.declared.transform.Transform as transform
use Rattle.ts_transform.specs.Driving.{AreOfStages, HasEvent, IsOfStageIf}
use Rattle.ts_transform.specs.Seats.{AllSeated, HasKey}
use Rattle.ts_transform.specs.declared.continuation.StageContinuation.{StageContinuation}
use Rattle.ts_phases.specs.Lowering.{events_paid, number_left}
use Rattle.ts_phases.specs.View.{View, view_of}
use Rattle.ts_txn.specs.CourseCover.{HasEventsOn, IsCoveredNow, course_seats}
use Rattle.ts_txn.specs.LoweringCourse.{number_if, parts_left, transaction_left}
use Rattle.ts_txn.specs.Rousing.{KeepsWork}
use Rattle.ts_txn.specs.World.{IsSoundTxn}
use Rattle.ts_txn.specs.declared.course.Course.{Course}
use Rattle.ts_txn.specs.declared.course.Course.TheVariants as K
use Rattle.ts_txn.specs.declared.txn.Txn.{Txn}
use Rattle.ts_txn.proofs.LoweringCourse.{asked_same}

-- ---- nothing was done, or one thing after the other

pub work_same : (most : ℕ) (a : Context) → KeepsWork most a a
work_same most a = record {
  event = λ key has. has;
  seated = λ ts seated. seated;
  plain = λ plain. plain;
  count = refl;
  later = omega arith;
  few = omega arith;
  roles = refl;
}

pub work_then : (m n most : ℕ) (a b c : Context) → m + n ≤ most → KeepsWork m a b → KeepsWork n b c
    → KeepsWork most a c
work_then m n most a b c more h k = record {
  event = λ key has. k.event key (h.event key has);
  seated = λ ts seated. k.seated ts (h.seated ts seated);
  plain = λ plain. k.plain (h.plain plain);
  count = k.count ∙ h.count;
  later = omega (arith, h.later, k.later);
  few = omega (arith, h.few, k.few, more);
  roles = k.roles ∙ h.roles;
}

-- ---- an event was brought forward

-- the journal is as it was
work_log : (most : ℕ) (a b : Context) → IsSameLog a.log b.log → b.roles ≡ a.roles → KeepsWork most a b
work_log most a b same roles =
    let next : b.log.state.next ≡ a.log.state.next = ap (λ (s : State). s.next) same.state in
    record {
      event = λ key has. subst (λ (s : State). HasEvent s.pending key) (sym same.state) has;
      seated = λ ts seated. subst (λ (s : State). AllSeated s.pending ts) (sym same.state) seated;
      plain = λ plain. subst (λ (s : State). AllPlain s.pending) (sym same.state) plain;
      count = ap (λ (s : State). length s.pending) same.state;
      later = omega (arith, next);
      few = omega (arith, next);
      roles = roles;
    }

module _ (a b : State) (late : Pending) (moment : ℕ) (valid : IsValid a)
    (h : HasHastened a b late moment) where
  -- no event that was pending has the number of the new one
  was_before : (n : ℕ) (p : Pending) → pending_at n a.pending ≡ Some p → n ≡ a.next → ⊥
  was_before n p there same =
      let known = is_known a n p valid there in
      let number = known.number in
      let below = known.below in
      omega (arith, number, below, same)

  -- whoever had an event has it, or the new one in its place
  event_on : (key : ContKey) → HasEvent a.pending key → HasEvent b.pending key
  event_on key has = by_number (eqb_tells has.event.number late.number)
    where
      by_number : ((eqb has.event.number late.number ≡ true) × (has.event.number ≡ late.number)) ⊎
          ((eqb has.event.number late.number ≡ false) × (has.event.number ≢ late.number))
          → HasEvent b.pending key
      by_number (inl is) =
          let both : Some late ≡ Some has.event = sym h.was ∙ ap (λ k. pending_at k a.pending) (sym is.1)
          ∙ has.there in
          let same : late ≡ has.event = cc in
          record {
            event = first_event a.next late.key Immediate moment 0;
            there = h.there;
            of_key = ap (λ (p : Pending). p.key) same ∙ has.of_key;
            works = refl;
          }
      by_number (inr other) = record {
        event = has.event;
        there = h.others has.event.number other.1 (was_before has.event.number has.event has.there)
            ∙ has.there;
        of_key = has.of_key;
        works = has.works;
      }

  -- the new event is of the continuation of which the late one was
  seated_on : (ts : List (Option StageContinuation)) → AllSeated a.pending ts → AllSeated b.pending ts
  seated_on ts seated n p there = by_next (eqb_tells n a.next)
    where
      by_late : n ≢ a.next → ((eqb n late.number ≡ true) × (n ≡ late.number)) ⊎
          ((eqb n late.number ≡ false) × (n ≢ late.number)) → HasKey ts p.key
      by_late not_next (inl is) = absurd (let wrong : None ≡ Some p = sym h.gone ∙ ap
          (λ k. pending_at k b.pending) (sym is.1) ∙ there in cc)
      by_late not_next (inr other) = seated n p (sym (h.others n other.1 not_next) ∙ there)

      by_next : ((eqb n a.next ≡ true) × (n ≡ a.next)) ⊎ ((eqb n a.next ≡ false) × (n ≢ a.next))
          → HasKey ts p.key
      by_next (inl is) =
          let both : Some (first_event a.next late.key Immediate moment 0) ≡ Some p = sym h.there
          ∙ ap (λ k. pending_at k b.pending) (sym is.1) ∙ there in
          let same : first_event a.next late.key Immediate moment 0 ≡ p = cc in
          subst (λ (q : Pending). HasKey ts q.key) same (seated late.number late h.was)
      by_next (inr other) = by_late other.1 (eqb_tells n late.number)

work_one : (a b : Context) (late : Pending) (moment : ℕ) → IsValid a.log.state
    → HasHastened a.log.state b.log.state late moment → b.roles ≡ a.roles → KeepsWork 1 a b
work_one a b late moment valid h roles =
    let next = h.next in
    record {
      event = event_on a.log.state b.log.state late moment valid h;
      seated = seated_on a.log.state b.log.state late moment valid h;
      plain = h.plain;
      count = h.count;
      later = omega (arith, next);
      few = omega (arith, next);
      roles = roles;
    }

-- whatever came of it
pub work_hastened : (a b : Context) (key : ContKey) (result : Result Bool SetFault) → IsOrderly a
    → Hastens a.log b.log key a.moment result → b.roles ≡ a.roles → KeepsWork 1 a b
work_hastened a b key (Ok true) orderly h roles =
    let done = h.hastened refl in
    work_one a b done.0 a.moment orderly.valid done.3 roles
work_hastened a b key (Ok false) orderly h roles = work_log 1 a b (h.none refl).1 roles
work_hastened a b key (Err fault) orderly h roles = work_log 1 a b h.err roles

-- ---- a transaction

module _ (most : ℕ) (a b : Context) (keeps : KeepsWork most a b) where
  work_if : (role : ℕ) (t : Option StageContinuation) → IsOfStageIf a.log.state.pending a.roles role t
      → IsOfStageIf b.log.state.pending b.roles role t
  work_if role None h = tt
  work_if role (Some t) h = record {
    named = ap (role_at t.key.index) keeps.roles ∙ h.named;
    event = λ roused. keeps.event t.key (h.event roused);
  }

  work_all : (role : ℕ) (ts : List (Option StageContinuation))
      → AreOfStages a.log.state.pending a.roles role ts → AreOfStages b.log.state.pending b.roles role ts
  work_all role [] h = tt
  work_all role (t ∷ ts) (here, others) = (work_if role t here, work_all (role + 1) ts others)

  -- each of its duties has its event still
  work_events : {Q : Type 0} (v : View) (main : Option StageContinuation) (course : Course Q)
      → HasEventsOn v main course a.log.state.pending a.roles
      → HasEventsOn v main course b.log.state.pending b.roles
  work_events v main (K.Phased p) has = (work_if _ main has.0, has.1)
  work_events v main (K.Relaying r) has = record {
    runs = has.runs;
    joined = record {
      stages = record {
        len = has.joined.stages.len;
        of_stages = work_all _ r.driven.table.items has.joined.stages.of_stages;
        cover = has.joined.stages.cover;
      };
      of_writer = work_if _ main has.joined.of_writer;
      of_reader = work_if _ r.reader has.joined.of_reader;
    };
    ends = has.ends;
    ordered = has.ordered;
  }
  work_events v main (K.Finishing end) has = (work_if _ main has.0, has.1)

  work_covered : {Q : Type 0} (v : View) (main : Option StageContinuation) (course : Course Q)
      → IsCoveredNow v main course a → IsCoveredNow v main course b
  work_covered v main course h = record {
    seated = keeps.seated (course_seats main course) h.seated;
    plain = keeps.plain h.plain;
    idles = h.idles;
    covered = by_event h.covered;
  }
    where
      by_event : HasEventsOn v main course a.log.state.pending a.roles ⊎ (GREATEST ≤ a.log.state.next)
          → HasEventsOn v main course b.log.state.pending b.roles ⊎ (GREATEST ≤ b.log.state.next)
      by_event (inl has) = inl (work_events v main course has)
      by_event (inr spent) = inr (omega (arith, spent, keeps.later))

-- what is left to do, with as many pending events
same_number : (work : Option ℕ) (before now : List Pending) → length now ≡ length before
    → number_left now work ≡ number_left before work
same_number None before now same = refl
same_number (Some work) before now same = ap {B = Option ℕ} (λ n. Some (events_paid * work + n)) same

module _ {C O Q : Type 0} (client : link.Ghosts C) (origin : link.Ghosts O) (both : upstream.Ghosts O C)
    (stage : transform.Ghosts Q TransformLine) (most : ℕ) (t : Txn C O Q) (a b : Context)
    (keeps : KeepsWork most a b) where
  -- it is sound
  pub work_sound : IsSoundTxn client origin both stage t a.log.state.pending a.log.state.next a.roles
      → IsSoundTxn client origin both stage t b.log.state.pending b.log.state.next b.roles
  work_sound h = record {
    stands = h.stands;
    covered = work_covered most a b keeps (view_of client origin t.core) t.main t.course h.covered;
  }

  -- and has as much to do
  pub work_falls : Falls (transaction_left client origin both stage t.core t.course a.log.state.pending) 0
      (transaction_left client origin both stage t.core t.course b.log.state.pending)
  work_falls =
      asked_same (transaction_left client origin both stage t.core t.course a.log.state.pending)
      (transaction_left client origin both stage t.core t.course b.log.state.pending)
      (ap (number_if (client.tells && origin.tells))
      (same_number (parts_left client origin both stage t.core t.course) a.log.state.pending
      b.log.state.pending keeps.count))
