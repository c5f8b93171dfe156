-- The transaction is covered behind one of its last writes.
use Rattle.std.proofs.Common.{refl}
use Rattle.ts_hooks.specs.declared.txn_end.TxnEnd.TheVariants as E
use Rattle.ts_txn.specs.declared.course.Course.TheVariants as K
use Rattle.ts_phases.specs.declared.phase.Phase.TheVariants as P
use Rattle.ts_txn.proofs.CourseSeats.{ended_alone}
use Rattle.ts_txn.proofs.course_leads.after_write.Goals as goal

-- More is written, or the transaction closes.
pub returns-in-Goes-clause-covered : goal.returns-in-Goes-clause-covered
returns-in-Goes-clause-covered g c = c.lead_to.ensures.covered

pub returns-in-Waits-clause-covered : goal.returns-in-Waits-clause-covered
returns-in-Waits-clause-covered g c = c.lead_to-in-Waits.ensures.covered

pub returns-in-Finishes-clause-covered : goal.returns-in-Finishes-clause-covered
returns-in-Finishes-clause-covered g c = c.lead_to-in-Finishes.ensures.covered

pub returns-in-Closes-clause-covered : goal.returns-in-Closes-clause-covered
returns-in-Closes-clause-covered g c = c.lead_to-in-Closes.ensures.covered

-- Memory lacked.
pub returns-in-Lacks-clause-covered : goal.returns-in-Lacks-clause-covered
returns-in-Lacks-clause-covered g c =
    ended_alone (P.Ended E.NoMemory) (K.Phased (P.Ended E.NoMemory)) c.args.main.now c.destroy_end.new.slot
    c.args.cx.now c.destroy_end.new.cx refl refl c.destroy_end.ensures.clears
    c.destroy_end.ensures.none
