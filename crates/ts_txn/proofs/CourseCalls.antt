-- The duties of a transaction when an event is handled, wherever it is on its course; and that none is left
-- where nothing is
-- pending, unless the event numbers are used up.
use Rattle.std.proofs.Common.{◌≡◌, ◌≢◌, ◌≤◌, ◌⊎◌, inl, inr, ℕ, List, [], ◌∷◌, true, false, Option, Some, None}
use Rattle.std.proofs.Common.{eqb, arith, refl, sym, ap, subst, ◌∙◌}
use Rattle.std.proofs.lemmas.Bool.Decides.{eqb_tells}
use Rattle.std.proofs.lemmas.Bool.{true≢false}
use Rattle.ts_journal.specs.declared.entry.TheConstants.{GREATEST}
use Rattle.ts_journal.specs.declared.entry.Event.{Event}
use Rattle.ts_journal.specs.declared.entry.Pending.{Pending}
use Rattle.ts_journal.specs.State.{State, pending_at}
use Rattle.ts_group.specs.declared.action.Named.{Named}
use Rattle.ts_group.specs.Calls.{IsCalled}
use Rattle.ts_group.specs.Changes.{SameEvents}
use Rattle.ts_group.specs.Context.{AllPlain, Context, IsOrderly, role_at}
use Rattle.ts_group.proofs.Facts.{plain_at}
use Rattle.ts_transform.specs.declared.continuation.StageContinuation.{StageContinuation}
use Rattle.ts_transform.specs.Driving.{IsOfStageIf, IsRousedIf, unroused, works_at}
use Rattle.ts_transform.specs.Seats.{AllSeated, HasKey}
use Rattle.ts_transform.proofs.Handled.{handled_by, quiet_if, stays_if, unroused_if}
use Rattle.ts_txn.specs.CourseCover.{HasNextEvent, BodyHasEvents, HasEventsOn, HasStepDone, IsAlone}
use Rattle.ts_txn.specs.CourseCover.{IsCoveredNow, IsCoveredOn, PassesNoBody, ProceedsOn, StandsBehind}
use Rattle.ts_txn.specs.CourseCover.{course_seats}
use Rattle.ts_phases.specs.Cover.{Proceeds, is_fresh}
use Rattle.ts_relay.specs.Duties.{BeginsBody, HandlesBody, body_seats}
use Rattle.ts_txn.specs.Making.{end_of_phase}
use Rattle.ts_phases.specs.View.{View}
use Rattle.ts_txn.specs.declared.course.Course.{Course}
use Rattle.ts_txn.specs.declared.course.Course.TheVariants as K
use Rattle.ts_relay.specs.declared.relay.TheConstants.{MAIN}
use Rattle.ts_relay.specs.declared.last_writes.BodyStep.{BodyStep}
use Rattle.ts_phases.specs.declared.phase.Phase.{Phase}
use Rattle.ts_phases.specs.declared.phase.Phase.TheVariants as P
use Rattle.ts_relay.specs.declared.relay.Relay.{Relay}
use Rattle.ts_relay.proofs.Chaining.{grows_next}
use Rattle.ts_relay.proofs.Duty.{no_lost_wake, none_pending}

-- ---- its first continuation is made

pub alone_made : (t : StageContinuation) (a b : Context) → AllSeated a.log.state.pending (None ∷ [])
    → AllPlain a.log.state.pending → SameEvents a.log.state b.log.state
    → role_at t.key.index b.roles ≡ Some MAIN → t.roused ≡ false → IsAlone (Some t) b
alone_made t a b seated plain same named rests = record {
  seated = λ n p there. absurd (seated n p (ap (pending_at n) (sym same.pending) ∙ there));
  plain = subst AllPlain (sym same.pending) plain;
  of_main = inl (record { named = named; event = λ roused. absurd (true≢false (sym roused ∙ rests)) });
}

-- ---- its group was asked

pub later_covered : {Q : Type 0} (v : View) (main : Option StageContinuation) (course : Course Q)
    (pending : List Pending) (m n : ℕ) (roles : List Named) → m ≤ n
    → IsCoveredOn v main course pending m roles → IsCoveredOn v main course pending n roles
later_covered v main course pending m n roles later h = record
    { seated = h.seated; plain = h.plain; idles = h.idles; covered = by_event h.covered }
  where
    by_event : HasEventsOn v main course pending roles ⊎ (GREATEST ≤ m)
        → HasEventsOn v main course pending roles ⊎ (GREATEST ≤ n)
    by_event (inl has) = inl has
    by_event (inr spent) = inr (omega (arith, spent, later))

-- ---- an event is handled

unroused_seats : (t : Option StageContinuation) (pending : List Pending) → AllSeated pending (t ∷ [])
    → AllSeated pending (unroused t ∷ [])
unroused_seats None pending seated = seated
unroused_seats (Some t) pending seated = seated

module _ (Sound : State → List Named → Type 0) (now : Context) (role : ℕ) (event : Event)
    (c : IsCalled Sound now role event) (plain : AllPlain c.before.pending) where
  handled_plain : c.handled.period ≡ 0
  handled_plain = plain_at c.handled.number c.before.pending c.handled plain c.there

  still_seated : (ts : List (Option StageContinuation)) → AllSeated c.before.pending ts
      → AllSeated now.log.state.pending ts
  still_seated ts seated n p there = by_number (eqb_tells n c.handled.number)
    where
      by_number : ((eqb n c.handled.number ≡ true) × (n ≡ c.handled.number)) ⊎
          ((eqb n c.handled.number ≡ false) × (n ≢ c.handled.number)) → HasKey ts p.key
      by_number (inl is) = absurd (let wrong : None ≡ Some p = sym c.has.gone ∙ ap
          (λ k. pending_at k now.log.state.pending) (sym is.1) ∙ there in cc)
      by_number (inr other) = seated n p (sym (c.has.others handled_plain n other.1) ∙ there)

  still_next : now.log.state.next ≡ c.before.next
  still_next = c.has.next handled_plain

  pub spent_still : GREATEST ≤ c.before.next → GREATEST ≤ now.log.state.next
  spent_still spent = subst (λ (n : ℕ). GREATEST ≤ n) (sym still_next) spent

module _ {Q : Type 0} (Sound : State → List Named → Type 0) (v : View) (main : Option StageContinuation)
    (now : Context) (role : ℕ) (event : Event) (c : IsCalled Sound now role event) where
  of_main : (course : Course Q) → PassesNoBody course → HasEventsOn v main course c.before.pending now.roles
      → IsOfStageIf c.before.pending now.roles MAIN main
  of_main (K.Relaying r) none has = absurd none
  of_main _ none has = has.0

  seats_main : (course : Course Q) → PassesNoBody course → course_seats main course ≡ main ∷ []
  seats_main (K.Relaying r) none = absurd none
  seats_main _ none = refl

  -- the event of the next step: the first continuation is left alone
  pub alone_called : (course : Course Q) → PassesNoBody course
      → IsCoveredOn v main course c.before.pending c.before.next now.roles → IsAlone (unroused main) now
  alone_called course none covered = record {
    seated = unroused_seats main now.log.state.pending
        (still_seated Sound now role event c covered.plain (main ∷ [])
        (subst (AllSeated c.before.pending) (seats_main course none) covered.seated));
    plain = c.has.plain covered.plain;
    of_main = by_event covered.covered;
  }
    where
      by_event : HasEventsOn v main course c.before.pending now.roles ⊎ (GREATEST ≤ c.before.next)
          → IsOfStageIf now.log.state.pending now.roles MAIN (unroused main) ⊎ (GREATEST ≤ now.log.state.next)
      by_event (inl has) = inl (unroused_if c.before.pending now.log.state.pending now.roles MAIN main
          (of_main course none has))
      by_event (inr spent) = inr (spent_still Sound now role event c covered.plain spent)

  -- another event, at which nothing is done
  still_main : (course : Course Q) → PassesNoBody course
      → (IsOfStageIf c.before.pending now.roles MAIN main → IsOfStageIf now.log.state.pending now.roles MAIN
      main)
      → HasEventsOn v main course c.before.pending now.roles
      → HasEventsOn v main course now.log.state.pending now.roles
  still_main (K.Relaying r) none keeps has = absurd none
  still_main _ none keeps (is, has) = (keeps is, has)

  still_covered : (course : Course Q) → PassesNoBody course
      → (IsOfStageIf c.before.pending now.roles MAIN main → IsOfStageIf now.log.state.pending now.roles MAIN
      main)
      → IsCoveredOn v main course c.before.pending c.before.next now.roles → IsCoveredNow v main course now
  still_covered course none keeps covered = record {
    seated = still_seated Sound now role event c covered.plain (course_seats main course) covered.seated;
    plain = c.has.plain covered.plain;
    idles = covered.idles;
    covered = by_event covered.covered;
  }
    where
      by_event : HasEventsOn v main course c.before.pending now.roles ⊎ (GREATEST ≤ c.before.next)
          → HasEventsOn v main course now.log.state.pending now.roles ⊎ (GREATEST ≤ now.log.state.next)
      by_event (inl has) = inl (still_main course none keeps has)
      by_event (inr spent) = inr (spent_still Sound now role event c covered.plain spent)

  -- one at which it does not work
  pub on_quiet : (course : Course Q) → PassesNoBody course → works_at event ≡ false
      → IsCoveredOn v main course c.before.pending c.before.next now.roles → IsCoveredNow v main course now
  on_quiet course none rests covered =
      still_covered course none (quiet_if c.before.pending now.log.state.pending now.roles MAIN role event
      main (handled_by Sound now role event c) rests) covered

  -- one of another continuation
  pub on_other : (course : Course Q) → PassesNoBody course → (role ≡ MAIN → ⊥)
      → IsCoveredOn v main course c.before.pending c.before.next now.roles → IsCoveredNow v main course now
  on_other course none other covered =
      still_covered course none (stays_if c.before.pending now.log.state.pending now.roles MAIN role event
      main (handled_by Sound now role event c) (λ is. other (sym is))) covered

  -- an event of a body that is passed on
  pub stands_handled : (step : BodyStep) (w : View) (u : Option StageContinuation) (r s : Relay Q)
      (b : Context) → IsCoveredOn v main (K.Relaying r) c.before.pending c.before.next now.roles
      → HandlesBody step role event v w main u r s now b → StandsBehind step w u s b
  stands_handled step w u r s b covered h = record {
    seated = h.seated [] (still_seated Sound now role event c covered.plain (body_seats main r)
        covered.seated);
    plain = h.acts.plain (c.has.plain covered.plain);
    body = by_event covered.covered;
  }
    where
      by_event : BodyHasEvents v main r c.before.pending now.roles ⊎ (GREATEST ≤ c.before.next)
          → HasStepDone step w u s b ⊎ (GREATEST ≤ b.log.state.next)
      by_event (inl has) = inl (record {
        joined = h.joined c.before.pending (handled_by Sound now role event c) (λ runs. has.joined);
        covered = h.covered (inl (has.runs, has.ends));
        runs = h.runs (inl (has.runs, has.ends));
        ordered = h.ordered has.ordered;
      })
      by_event (inr spent) = inr (omega (
        arith,
        spent_still Sound now role event c covered.plain spent,
        grows_next now b c.orderly h.acts.grows,
      ))

-- ---- a body begins

pub stands_begun : {Q : Type 0} {stages : ℕ} (step : BodyStep) (w : View) (t u : Option StageContinuation)
    (s : Relay Q) (a b : Context) → IsOrderly a → BeginsBody step stages w t u s a b → IsAlone t a
    → StandsBehind step w u s b
stands_begun step w t u s a b orderly h alone = record {
  seated = h.seated [] alone.seated;
  plain = h.acts.plain alone.plain;
  body = by_main alone.of_main;
}
  where
    by_main : IsOfStageIf a.log.state.pending a.roles MAIN t ⊎ (GREATEST ≤ a.log.state.next)
        → HasStepDone step w u s b ⊎ (GREATEST ≤ b.log.state.next)
    by_main (inl is) = inl (record {
      joined = h.joined is;
      covered = h.covered;
      runs = h.runs;
      ordered =
          h.ordered;
    })
    by_main (inr spent) = inr (omega (arith, spent, grows_next a b orderly h.acts.grows))

-- ---- nothing is pending

next_roused : (p : Phase) (main : Option StageContinuation) → Proceeds p → HasNextEvent p main
    → IsRousedIf main
next_roused P.Fresh main goes has = absurd goes
next_roused (P.Ended end) main goes has = absurd goes
next_roused _ main goes has = has

-- so a transaction that was started has ended, or the event numbers are used up
pub at_rest_on : {Q : Type 0} (v : View) (main : Option StageContinuation) (course : Course Q) (next : ℕ)
    (roles : List Named) → ProceedsOn course → IsCoveredOn v main course [] next roles → GREATEST ≤ next
at_rest_on {Q} v main course next roles goes h = by_event course goes h.covered
  where
    by_event : (course : Course Q) → ProceedsOn course
        → HasEventsOn v main course [] roles ⊎ (GREATEST ≤ next) → GREATEST ≤ next
    by_event course goes (inr spent) = spent
    by_event (K.Phased p) goes (inl (is, has)) = absurd
        (none_pending roles MAIN main is (next_roused p main goes has))
    by_event (K.Relaying r) goes (inl has) = absurd
        (no_lost_wake v main r roles (λ runs. has.joined) has.runs has.ends has.ordered)
    by_event (K.Finishing end) goes (inl (is, roused)) = absurd (none_pending roles MAIN main is roused)

-- whether it was started, and has not ended, as its phase tells
pub proceeds_phase : (p : Phase) → is_fresh p ≡ false → end_of_phase p ≡ None → Proceeds p
proceeds_phase P.Fresh started lasts = absurd (cc)
proceeds_phase (P.Ended end) started lasts = absurd (cc)
proceeds_phase _ started lasts = tt
