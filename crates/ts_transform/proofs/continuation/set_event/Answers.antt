-- The event that is set is one at which its stage works, in time: after its pause, and at once if it has
-- none.
use Rattle.std.proofs.Common.{◌≡◌, ◌==◌, arith, refl, subst, true}
use Rattle.ts_transform.specs.Driving.{IsWorkOf, SetsOnly}
use Rattle.ts_transform.proofs.Kept.{set_event, soon_later, soon_now, works_soon}
use Rattle.ts_transform.proofs.Setting.{set_work}
use Rattle.ts_transform.proofs.continuation.set_event.Goals as goal

pub returns-then-pause-gt0-clause-only : goal.returns-then-pause-gt0-clause-only
returns-then-pause-gt0-clause-only c =
    set_work c.args.cx.now c.schedule.new.self c.schedule.result c.args.key c.args.pause
    c.schedule.ensures.sets (works_soon (c.args.pause == 0)) (soon_later c.args.cx.now.moment c.args.pause)

pub returns-then-pause-gt0-clause-event : goal.returns-then-pause-gt0-clause-event
returns-then-pause-gt0-clause-event c =
    set_event c.args.cx.now c.schedule.new.self c.schedule.result c.args.key _ _ c.schedule.ensures.sets
    (works_soon (c.args.pause == 0))

pub returns-in-Upstream-clause-only : goal.returns-in-Upstream-clause-only
returns-in-Upstream-clause-only c =
    let none : 0 ≡ c.args.pause = let low = c.if-pause-gt0.false in omega (arith, low) in
    let set = c.schedule-in-Upstream in
    let now = c.args.cx.now in
    subst (λ pause. SetsOnly (IsWorkOf c.args.key pause now.moment) now set.new.self) none
    (set_work now set.new.self set.result c.args.key 0 set.ensures.sets (works_soon true)
    (soon_later now.moment 0))

pub returns-in-Upstream-clause-event : goal.returns-in-Upstream-clause-event
returns-in-Upstream-clause-event c =
    let set = c.schedule-in-Upstream in
    set_event c.args.cx.now set.new.self set.result c.args.key _ _ set.ensures.sets (works_soon true)

pub returns-in-Downstream-clause-only : goal.returns-in-Downstream-clause-only
returns-in-Downstream-clause-only c =
    let none : 0 ≡ c.args.pause = let low = c.if-pause-gt0.false in omega (arith, low) in
    let now = c.args.cx.now in
    subst (λ pause. SetsOnly (IsWorkOf c.args.key pause now.moment) now c.call.new.self) none
    (set_work now c.call.new.self c.call.result c.args.key 0 c.call.ensures.sets refl
    (soon_now now.moment))

pub returns-in-Downstream-clause-event : goal.returns-in-Downstream-clause-event
returns-in-Downstream-clause-event c =
    set_event c.args.cx.now c.call.new.self c.call.result c.args.key _ _ c.call.ensures.sets refl
