-- The transaction is covered by the event of its next step, or has ended.
use Rattle.std.proofs.Common.{refl, subst, sym}
use Rattle.ts_hooks.specs.declared.txn_end.TxnEnd.TheVariants as E
use Rattle.ts_txn.specs.Course.{course_led}
use Rattle.ts_txn.specs.CourseCover.{CoversAlone}
use Rattle.ts_txn.specs.declared.course.Course.TheVariants as K
use Rattle.ts_phases.specs.declared.phase.Phase.TheVariants as P
use Rattle.ts_txn.proofs.CourseSeats.{goes_led, lacks_alone, led_alone}
use Rattle.ts_txn.proofs.course_leads.lead_to.Goals as goal

pub returns-then-rouse_next-clause-covered : goal.returns-then-rouse_next-clause-covered
returns-then-rouse_next-clause-covered g c =
    subst (λ x. CoversAlone c.args.main.now c.rouse_next.new.main x c.args.cx.now c.rouse_next.new.cx)
    (sym c.course_led.ensures)
    (led_alone (course_led c.args.lead) c.args.main.now c.rouse_next.new.main c.args.cx.now
    c.rouse_next.new.cx
    c.if-rouse_next.ensures.rouses c.rouse_next.ensures.seated c.rouse_next.ensures.within
    (goes_led _ c.args.lead))

-- There was no memory for the event.
pub returns-clause-covered : goal.returns-clause-covered
returns-clause-covered g c =
    lacks_alone (K.Phased (P.Ended E.NoMemory)) c.args.main.now c.rouse_next.new.main c.args.cx.now
    c.rouse_next.new.cx refl c.if-rouse_next.ensures.rouses c.rouse_next.ensures.seated
    c.rouse_next.ensures.within
