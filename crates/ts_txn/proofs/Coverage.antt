-- The next step of a transaction has an event, or there is none.
use Rattle.std.proofs.Common.{◌≡◌, ◌≢◌, ℕ, ◌<◌, ◌≤◌, inl, true, Option, None, arith, refl, ap, subst}
use Rattle.ts_journal.specs.declared.entry.TheConstants.{GREATEST}
use Rattle.ts_group.specs.declared.action.SetFault.{SetFault}
use Rattle.ts_group.specs.declared.action.SetFault.TheVariants as F
use Rattle.ts_transform.specs.Driving.{IsRousedIf}
use Rattle.ts_transform.specs.declared.continuation.StageContinuation.{StageContinuation}
use Rattle.ts_phases.specs.Cover.{Proceeds, is_ended, is_fresh}
use Rattle.ts_txn.specs.CourseCover.{Idles, HasNextEvent, HasNextEventOr, is_fresh_on, IdlesOn}
use Rattle.ts_txn.specs.declared.course.Course.{Course}
use Rattle.ts_txn.specs.declared.course.Course.TheVariants as K
use Rattle.ts_phases.specs.declared.phase.Phase.{Phase}
use Rattle.ts_phases.specs.declared.phase.Phase.TheVariants as P

-- its continuation was roused
pub covered_roused : (p : Phase) (main : Option StageContinuation) (next : ℕ) → Proceeds p → IsRousedIf main
    → HasNextEventOr p main next
covered_roused p main next goes roused = inl (by_phase p goes)
  where
    by_phase : (p : Phase) → Proceeds p → HasNextEvent p main
    by_phase P.Fresh goes = tt
    by_phase (P.Ended end) goes = tt
    by_phase _ goes = roused

-- a phase that goes on asks nothing where it has a continuation
pub idle_goes : (p : Phase) (main : Option StageContinuation) → Proceeds p → Idles p main
idle_goes P.Fresh main goes = absurd goes
idle_goes (P.Ended end) main goes = absurd goes
idle_goes _ main goes = tt

-- one that has ended has none
ended_has : (p : Phase) → is_ended p ≡ true → (T : Phase → Type 0) → ((end : _) → T (P.Ended end)) → T p
ended_has (P.Ended end) is T h = h end
ended_has _ is T h = absurd (cc)

pub ended_idle : (p : Phase) (main : Option StageContinuation) → is_ended p ≡ true → main ≡ None
    → Idles p main
ended_idle p main is none = ended_has p is (λ x. Idles x main) (λ end. none)

pub ended_covered : (p : Phase) (main : Option StageContinuation) (next : ℕ) → is_ended p ≡ true
    → HasNextEventOr p main next
ended_covered p main next is = ended_has p is (λ x. HasNextEventOr x main next) (λ end. inl tt)

-- one that was not started is in its first phase
fresh_is : (p : Phase) → is_fresh p ≡ true → p ≡ P.Fresh
fresh_is P.Fresh is = refl
fresh_is _ is = absurd (cc)

pub fresh_on : {Q : Type 0} (course : Course Q) → is_fresh_on course ≡ true → course ≡ K.Phased P.Fresh
fresh_on {Q} (K.Phased p) is = ap {B = Course Q} (λ x. K.Phased x) (fresh_is p is)
fresh_on (K.Relaying r) is = absurd (cc)
fresh_on (K.Finishing end) is = absurd (cc)

-- and so without a continuation
pub fresh_none : {Q : Type 0} (course : Course Q) (main : Option StageContinuation)
    → is_fresh_on course ≡ true → IdlesOn course main → main ≡ None
fresh_none course main is idles = subst (λ x. IdlesOn x main) (fresh_on course is) idles

-- an event can be set of a live continuation where the numbers are not used up, and memory is there
pub never_spent : (fault : SetFault) (next : ℕ) (Live : Type 0) → fault ≢ F.Spent
    → (fault ≡ F.NoMemory → next < GREATEST)
    → (fault ≡ F.Dead → Live → ⊥) → GREATEST ≤ next → Live → ⊥
never_spent F.Spent next Live other memory dead spent live = other refl
never_spent F.NoMemory next Live other memory dead spent live = let less : next < GREATEST = memory refl in
    omega (arith, less, spent)
never_spent F.Dead next Live other memory dead spent live = dead refl live
