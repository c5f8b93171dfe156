-- Behind a step of its body a transaction stays where it is, or the body is left: whether one is passed on,
-- and that each duty has its event then.
use Rattle.std.proofs.Common.{◌≡◌, ◌≤◌, ◌⊎◌, inl, inr, true, Option, refl, sym, subst}
use Rattle.ts_journal.specs.declared.entry.TheConstants.{GREATEST}
use Rattle.ts_group.specs.Context.{Context}
use Rattle.ts_transform.specs.Flow.{EndsInOrder}
use Rattle.ts_transform.specs.declared.continuation.StageContinuation.{StageContinuation}
use Rattle.ts_transform.proofs.Kept.{acts_none}
use Rattle.ts_relay.specs.Duties.{IsBodyCovered, IsBodyJoined, WhileGoes, set_leaving}
use Rattle.ts_relay.specs.declared.last_writes.BodyStep.{BodyStep}
use Rattle.ts_relay.specs.declared.last_writes.BodyStep.TheVariants as S
use Rattle.ts_relay.specs.declared.relay.Relay.{Relay}
use Rattle.ts_txn.specs.Course.{course_after}
use Rattle.ts_txn.specs.CourseCover.{BodyHasEvents, CoversLed, HasStepDone, LedAfter, PassesBody}
use Rattle.ts_txn.specs.CourseCover.{PassesNoBody}
use Rattle.ts_txn.specs.Driven.{LeadsRelay, LeavesRelay, is_passed_on}
use Rattle.ts_txn.specs.declared.course.Course.{Course}
use Rattle.ts_txn.specs.declared.course.Course.TheVariants as K
use Rattle.ts_txn.specs.declared.course_leads.TheConstants.{AT_ONCE}
use Rattle.ts_txn.proofs.Seating.{due_rests}

-- ---- whether a body is passed on

-- what is no body that is passed on passes none on
pub passes_none : {Q : Type 0} (course : Course Q) → ((r : Relay Q) → course ≡ K.Relaying r → ⊥)
    → PassesNoBody course
passes_none (K.Phased p) other = tt
passes_none (K.Relaying r) other = other r refl
passes_none (K.Finishing end) other = tt

-- and what passes one on is one
pub never_other : {Q : Type 0} (course : Course Q) → PassesBody course
    → ((r : Relay Q) → course ≡ K.Relaying r → ⊥) → ⊥
never_other (K.Phased p) body other = body
never_other (K.Relaying r) body other = other r refl
never_other (K.Finishing end) body other = body

-- ---- it stays where it is

stays_after : {Q : Type 0} (step : BodyStep) (r : Relay Q) → is_passed_on step ≡ true
    → K.Relaying r ≡ course_after r step
stays_after S.Goes r is = refl
stays_after S.Waits r is = refl
stays_after (S.Finishes end) r is = absurd (cc)
stays_after (S.Closes end) r is = absurd (cc)
stays_after S.Lacks r is = absurd (cc)

stays_led : {Q : Type 0} (step : BodyStep) (r : Relay Q) → is_passed_on step ≡ true
    → LedAfter step (course_after r step) (K.Relaying r)
stays_led S.Goes r is = refl
stays_led S.Waits r is = refl
stays_led (S.Finishes end) r is = absurd (cc)
stays_led (S.Closes end) r is = absurd (cc)
stays_led S.Lacks r is = absurd (cc)

while_passed : (step : BodyStep) (X : Type 0) → is_passed_on step ≡ true → WhileGoes step X → X
while_passed S.Goes X is h = h
while_passed S.Waits X is h = h
while_passed (S.Finishes end) X is h = absurd (cc)
while_passed (S.Closes end) X is h = absurd (cc)
while_passed S.Lacks X is h = absurd (cc)

stays_covered : {Q : Type 0} (step : BodyStep) (r : Relay Q) (t : Option StageContinuation) (a : Context)
    → is_passed_on step ≡ true → CoversLed step r t t (K.Relaying r) a a
stays_covered step r t a is v stands = record {
  seated = stands.seated;
  plain = stands.plain;
  idles = tt;
  covered = by_body stands.body;
}
  where
    by_duties : IsBodyJoined t r a.log.state.pending a.roles → IsBodyCovered v t r a.log.state.next
        → EndsInOrder true r.driven.chain.stages
        → BodyHasEvents v t r a.log.state.pending a.roles ⊎ (GREATEST ≤ a.log.state.next)
    by_duties joined (inl (runs, ends)) ordered =
        inl (record { runs = runs; joined = joined runs; ends = ends; ordered = ordered })
    by_duties joined (inr spent) ordered = inr spent

    by_body : HasStepDone step v t r a ⊎ (GREATEST ≤ a.log.state.next)
        → BodyHasEvents v t r a.log.state.pending a.roles ⊎ (GREATEST ≤ a.log.state.next)
    by_body (inl done) = by_duties done.joined
        (while_passed step (IsBodyCovered v t r a.log.state.next) is done.covered) done.ordered
    by_body (inr spent) = inr spent

stays_relaying : {Q : Type 0} (step : BodyStep) (r : Relay Q) (t : Option StageContinuation) (a : Context)
    → a.log.state.held ≡ true → is_passed_on step ≡ true → LeavesRelay step r (K.Relaying r) t t a a
stays_relaying step r t a turn is = record {
  led = stays_led step r is;
  within = acts_none (set_leaving step) a turn;
  due = due_rests a AT_ONCE;
  spent = λ named all spent live. stays_after step r is;
  covered = stays_covered step r t a is;
}

-- the body is passed on
pub leads_on : {Q : Type 0} (step : BodyStep) (course : Course Q) (t : Option StageContinuation) (a : Context)
    → PassesBody course → a.log.state.held ≡ true → is_passed_on step ≡ true
    → LeadsRelay step course course t t a a
leads_on step (K.Phased p) t a body turn is = absurd body
leads_on step (K.Relaying r) t a body turn is = stays_relaying step r t a turn is
leads_on step (K.Finishing end) t a body turn is = absurd body

-- ---- the body is left

-- it was taken out, and what came of that was put in its place
pub leads_out : {Q : Type 0} (step : BodyStep) (course : Course Q) (r : Relay Q) (result new : Course Q)
    (t u : Option StageContinuation) (a b : Context) → course ≡ K.Relaying r → new ≡ result
    → LeavesRelay step r result t u a b → LeadsRelay step course new t u a b
leads_out step course r result new t u a b is put left =
    subst (λ x. LeadsRelay step x new t u a b) (sym is)
    (subst (λ x. LeavesRelay step r x t u a b) (sym put) left)
