-- The next step has an event of the first continuation, or there was no memory for one.
use Rattle.std.proofs.Common.{◌∷◌, [], arith, refl, rules, subst}
use Rattle.ts_transform.specs.Driving.{HasLiveIf, IsCause}
use Rattle.ts_transform.proofs.Living.{end_live}
use Rattle.ts_transform.proofs.Kept.{acts_adds, acts_then}
use Rattle.ts_transform.proofs.Seats.{cleared_acts}
use Rattle.ts_txn.proofs.Coverage.{never_spent}
use Rattle.ts_txn.proofs.CourseSeats.{lacks_next, roused_next, seated_destroyed, seated_next}
use Rattle.ts_txn.proofs.Seating.{due_less, due_set, of_main}
use Rattle.ts_txn.proofs.course_leads.rouse_next.Goals as goal

-- The event was set, or no number was left for it.
pub returns-in_default-clause-seated : goal.returns-in_default-clause-seated
returns-in_default-clause-seated c =
    seated_next c.args.main.now c.rouse_end.new.slot c.args.cx.now c.rouse_end.new.cx
    c.rouse_end.ensures.adds.keeps c.rouse_end.ensures.stage.same
    (of_main c.args.main.now c.args.after c.args.cx.now c.rouse_end.new.cx c.rouse_end.ensures.work.0)

pub returns-in_default-clause-due : goal.returns-in_default-clause-due
returns-in_default-clause-due c =
    due_set c.args.main.now c.args.after c.args.cx.now c.rouse_end.new.cx c.rouse_end.ensures.work.0

pub returns-in_default-clause-rouses : goal.returns-in_default-clause-rouses
returns-in_default-clause-rouses c =
    roused_next c.args.main.now c.rouse_end.new.slot c.args.cx.now c.rouse_end.new.cx c.known.ensures
    c.rouse_end.ensures.adds.grows c.rouse_end.ensures.stage (c.in_default.ensures.roused refl)

pub returns-then-is_spent-clause-seated : goal.returns-then-is_spent-clause-seated
returns-then-is_spent-clause-seated c =
    seated_next c.args.main.now c.rouse_end.new.slot c.args.cx.now c.rouse_end.new.cx
    c.rouse_end.ensures.adds.keeps c.rouse_end.ensures.stage.same
    (of_main c.args.main.now c.args.after c.args.cx.now c.rouse_end.new.cx c.rouse_end.ensures.work.0)

pub returns-then-is_spent-clause-due : goal.returns-then-is_spent-clause-due
returns-then-is_spent-clause-due c =
    due_set c.args.main.now c.args.after c.args.cx.now c.rouse_end.new.cx c.rouse_end.ensures.work.0

-- There was no memory for an event, and the continuation was destroyed.
pub returns-clause-seated : goal.returns-clause-seated
returns-clause-seated c =
    seated_destroyed c.args.main.now c.rouse_end.new.slot c.destroy_end.new.slot c.args.cx.now
    c.rouse_end.new.cx c.destroy_end.new.cx
    (seated_next c.args.main.now c.rouse_end.new.slot c.args.cx.now c.rouse_end.new.cx
    c.rouse_end.ensures.adds.keeps c.rouse_end.ensures.stage.same
    (of_main c.args.main.now c.args.after c.args.cx.now c.rouse_end.new.cx c.rouse_end.ensures.work.0))
    c.destroy_end.ensures.clears c.destroy_end.ensures.none

pub returns-clause-rouses : goal.returns-clause-rouses
returns-clause-rouses c =
    lacks_next c.args.main.now c.destroy_end.new.slot (c.rouse_end.new.slot ∷ []) c.args.cx.now
    c.rouse_end.new.cx c.destroy_end.new.cx c.known.ensures c.rouse_end.ensures.adds.grows
    c.destroy_end.ensures.clears c.destroy_end.ensures.none

pub returns-clause-within : goal.returns-clause-within
returns-clause-within c =
    acts_then 1 0 1 (omega arith)
    (acts_adds 1 1 c.rouse_end.result c.args.cx.now c.rouse_end.new.cx (omega arith) c.rouse_end.ensures.adds)
    (cleared_acts (c.rouse_end.new.slot ∷ []) c.rouse_end.new.cx c.destroy_end.new.cx
    c.destroy_end.ensures.clears)

pub returns-clause-due : goal.returns-clause-due
returns-clause-due c = due_less c.args.cx.now c.rouse_end.new.cx c.destroy_end.new.cx c.args.after
    (due_set c.args.main.now c.args.after c.args.cx.now c.rouse_end.new.cx c.rouse_end.ensures.work.0)
    c.destroy_end.ensures.clears.less

pub returns-clause-spent : goal.returns-clause-spent
returns-clause-spent c = λ spent live.
    absurd (never_spent c.in-Err.fault c.args.cx.now.log.state.next
    (HasLiveIf c.args.cx.now.log.state.live c.args.main.now)
    (c.is_spent.ensures.other c.if-is_spent.false) (λ is. c.rouse_end.ensures.work.1 (search rules))
    (λ is alive. subst (λ f. IsCause (HasLiveIf c.rouse_end.new.cx.log.state.live c.rouse_end.new.slot) f
    c.rouse_end.new.cx) is c.in-Err.ensures.adds.cause
    (end_live c.args.main.now c.rouse_end.new.slot c.args.cx.now c.rouse_end.new.cx
    c.rouse_end.ensures.adds.keeps.live c.rouse_end.ensures.stage.same alive)) spent live)
