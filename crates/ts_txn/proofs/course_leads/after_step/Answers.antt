-- The transaction is covered behind the step of a phase.
use Rattle.std.proofs.Common.{refl, subst, sym}
use Rattle.ts_transform.specs.Driving.{ActsWithin}
use Rattle.ts_transform.proofs.Kept.{acts_lessens}
use Rattle.ts_phases.specs.Cover.{StepsTo, set_after}
use Rattle.ts_txn.specs.declared.course.Course.TheVariants as K
use Rattle.ts_txn.proofs.CourseSeats.{ended_alone}
use Rattle.ts_txn.proofs.course_leads.after_step.Goals as goal

-- The next step is made at once.
pub returns-in-Go-clause-within : goal.returns-in-Go-clause-within
returns-in-Go-clause-within g c = subst (λ n. ActsWithin (set_after n) c.args.cx.now c.stay_in.new.cx)
    (sym c.in-Go.is) c.stay_in.ensures.within

pub returns-in-Go-clause-covered : goal.returns-in-Go-clause-covered
returns-in-Go-clause-covered g c = λ leads. c.stay_in.ensures.covered
    (subst (λ n. StepsTo n c.args.step.phase) c.in-Go.is leads)

-- Or it waits.
pub returns-in-Wait-clause-within : goal.returns-in-Wait-clause-within
returns-in-Wait-clause-within g c = subst (λ n. ActsWithin (set_after n) c.args.cx.now
    c.stay_in-in-Wait.new.cx) (sym c.in-Wait.is) c.stay_in-in-Wait.ensures.within

pub returns-in-Wait-clause-covered : goal.returns-in-Wait-clause-covered
returns-in-Wait-clause-covered g c = λ leads. c.stay_in-in-Wait.ensures.covered
    (subst (λ n. StepsTo n c.args.step.phase) c.in-Wait.is leads)

-- It has ended.
pub returns-in-Done-clause-within : goal.returns-in-Done-clause-within
returns-in-Done-clause-within g c = acts_lessens (set_after c.args.step.next) c.args.cx.now
    c.destroy_end.new.cx c.destroy_end.ensures.clears.lessens

pub returns-in-Done-clause-covered : goal.returns-in-Done-clause-covered
returns-in-Done-clause-covered g c = λ leads.
    ended_alone c.args.step.phase (K.Phased c.args.step.phase) c.args.main.now c.destroy_end.new.slot
    c.args.cx.now c.destroy_end.new.cx refl
    (subst (λ n. StepsTo n c.args.step.phase) c.in-Done.is leads) c.destroy_end.ensures.clears
    c.destroy_end.ensures.none
