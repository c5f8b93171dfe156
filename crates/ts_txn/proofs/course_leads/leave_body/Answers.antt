-- A body that was left is closed, and the transaction is covered without it.
use Rattle.std.proofs.Common.{arith, refl, subst, sym}
use Rattle.ts_hooks.specs.declared.txn_end.TxnEnd.TheVariants as E
use Rattle.ts_transform.specs.Driving.{ActsWithin}
use Rattle.ts_transform.proofs.Kept.{acts_lessens, acts_none, acts_then}
use Rattle.ts_transform.proofs.Seats.{cleared_acts}
use Rattle.ts_txn.specs.Course.{course_after}
use Rattle.ts_txn.specs.CourseCover.{StaysWhereNamed}
use Rattle.ts_relay.specs.Duties.{set_leaving, RunsOr, relay_seats}
use Rattle.ts_txn.specs.declared.course.Course.TheVariants as K
use Rattle.ts_relay.specs.declared.last_writes.BodyStep.TheVariants as S
use Rattle.ts_phases.specs.declared.phase.Phase.TheVariants as P
use Rattle.ts_txn.specs.declared.course_leads.TheConstants.{AT_ONCE}
use Rattle.ts_txn.proofs.CourseSeats.{left_covers, left_spent, lost_covers, runs_closing, runs_finishing}
use Rattle.ts_txn.proofs.Seating.{due_cleared, due_less, due_rests}
use Rattle.ts_txn.proofs.course_leads.leave_body.Goals as goal

-- The body is passed on.
pub returns-in-Goes-clause-within : goal.returns-in-Goes-clause-within
returns-in-Goes-clause-within g c = acts_none (set_leaving c.args.step) c.args.cx.now c.requires.turn

pub returns-in-Waits-clause-within : goal.returns-in-Waits-clause-within
returns-in-Waits-clause-within g c = acts_none (set_leaving c.args.step) c.args.cx.now c.requires.turn

-- All that the client gets was queued.
pub returns-in-Finishes-clause-within : goal.returns-in-Finishes-clause-within
returns-in-Finishes-clause-within g c =
    subst (λ s. ActsWithin (set_leaving s) c.args.cx.now c.lead_to.new.cx) (sym c.in-Finishes.is)
    (acts_then 0 1 1 (omega arith) (cleared_acts (relay_seats c.args.relay) c.args.cx.now c.close_relay.new.cx
    c.close_relay.ensures.clears) c.lead_to.ensures.within)

pub returns-in-Finishes-clause-due : goal.returns-in-Finishes-clause-due
returns-in-Finishes-clause-due g c = due_cleared c.args.cx.now c.close_relay.new.cx c.lead_to.new.cx AT_ONCE
    c.close_relay.ensures.clears.lessens c.lead_to.ensures.due

pub returns-in-Finishes-clause-covered : goal.returns-in-Finishes-clause-covered
returns-in-Finishes-clause-covered g c =
    left_covers c.args.step c.args.relay c.lead_to.result c.args.main.now c.lead_to.new.main c.args.cx.now
    c.close_relay.new.cx c.lead_to.new.cx
    (runs_finishing c.args.step c.in-Finishes.end (RunsOr c.args.relay c.args.cx.now.log.state.next)
    c.in-Finishes.is) c.close_relay.ensures.clears c.lead_to.ensures.covered

pub returns-in-Finishes-clause-spent : goal.returns-in-Finishes-clause-spent
returns-in-Finishes-clause-spent g c =
    subst (λ s. StaysWhereNamed (course_after c.args.relay s) c.args.relay c.lead_to.result c.args.main.now
    c.args.cx.now) (sym c.in-Finishes.is)
    (left_spent (course_after c.args.relay (S.Finishes c.in-Finishes.end)) c.args.relay c.lead_to.result
    c.args.main.now c.args.cx.now c.close_relay.new.cx c.close_relay.ensures.clears c.lead_to.ensures.spent)

-- The transaction closes.
pub returns-in-Closes-clause-within : goal.returns-in-Closes-clause-within
returns-in-Closes-clause-within g c =
    subst (λ s. ActsWithin (set_leaving s) c.args.cx.now c.lead_to-in-Closes.new.cx) (sym c.in-Closes.is)
    (acts_then 0 1 1 (omega arith) (cleared_acts (relay_seats c.args.relay) c.args.cx.now
    c.close_relay-in-Closes.new.cx c.close_relay-in-Closes.ensures.clears)
    c.lead_to-in-Closes.ensures.within)

pub returns-in-Closes-clause-due : goal.returns-in-Closes-clause-due
returns-in-Closes-clause-due g c = due_cleared c.args.cx.now c.close_relay-in-Closes.new.cx
    c.lead_to-in-Closes.new.cx AT_ONCE c.close_relay-in-Closes.ensures.clears.lessens
    c.lead_to-in-Closes.ensures.due

pub returns-in-Closes-clause-covered : goal.returns-in-Closes-clause-covered
returns-in-Closes-clause-covered g c =
    left_covers c.args.step c.args.relay c.lead_to-in-Closes.result c.args.main.now c.lead_to-in-Closes.new.main
    c.args.cx.now c.close_relay-in-Closes.new.cx c.lead_to-in-Closes.new.cx
    (runs_closing c.args.step c.in-Closes.end (RunsOr c.args.relay c.args.cx.now.log.state.next)
    c.in-Closes.is) c.close_relay-in-Closes.ensures.clears c.lead_to-in-Closes.ensures.covered

pub returns-in-Closes-clause-spent : goal.returns-in-Closes-clause-spent
returns-in-Closes-clause-spent g c =
    subst (λ s. StaysWhereNamed (course_after c.args.relay s) c.args.relay c.lead_to-in-Closes.result
    c.args.main.now c.args.cx.now) (sym c.in-Closes.is)
    (left_spent (course_after c.args.relay (S.Closes c.in-Closes.end)) c.args.relay c.lead_to-in-Closes.result
    c.args.main.now c.args.cx.now c.close_relay-in-Closes.new.cx
    c.close_relay-in-Closes.ensures.clears c.lead_to-in-Closes.ensures.spent)

-- Memory lacked, and all was destroyed.
pub returns-in-Lacks-clause-within : goal.returns-in-Lacks-clause-within
returns-in-Lacks-clause-within g c =
    acts_then 0 (set_leaving c.args.step) (set_leaving c.args.step) (omega arith)
    (cleared_acts (relay_seats c.args.relay) c.args.cx.now c.close_relay-in-Lacks.new.cx
    c.close_relay-in-Lacks.ensures.clears)
    (acts_lessens (set_leaving c.args.step) c.close_relay-in-Lacks.new.cx c.destroy_end.new.cx
    c.destroy_end.ensures.clears.lessens)

pub returns-in-Lacks-clause-due : goal.returns-in-Lacks-clause-due
returns-in-Lacks-clause-due g c =
    let closed = c.close_relay-in-Lacks.new.cx in
    due_less c.args.cx.now closed c.destroy_end.new.cx AT_ONCE
    (due_cleared c.args.cx.now closed closed AT_ONCE c.close_relay-in-Lacks.ensures.clears.lessens
    (due_rests closed AT_ONCE)) c.destroy_end.ensures.clears.less

pub returns-in-Lacks-clause-covered : goal.returns-in-Lacks-clause-covered
returns-in-Lacks-clause-covered g c =
    lost_covers c.args.step c.args.relay (K.Phased (P.Ended E.NoMemory)) c.args.main.now
    c.destroy_end.new.slot c.args.cx.now c.close_relay-in-Lacks.new.cx c.destroy_end.new.cx refl
    c.close_relay-in-Lacks.ensures.clears c.destroy_end.ensures.clears c.destroy_end.ensures.none
