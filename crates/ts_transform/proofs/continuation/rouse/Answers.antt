use Rattle.std.proofs.Common.{[], ◌∷◌, true, arith, refl, subst}
use Rattle.ts_transform.specs.Driving.{HasLiveIf, IsWorkOfIf}
use Rattle.ts_transform.proofs.Kept.{adds_dead, adds_err, adds_none}
use Rattle.ts_transform.proofs.Setting.{only_none, work_of}
use Rattle.ts_transform.specs.Seats.{KeepsSeated}
use Rattle.ts_transform.proofs.Seating.{seated_slot}
use Rattle.ts_transform.proofs.continuation.rouse.Goals as goal

pub returns-in_err-set_event-clause-only : goal.returns-in_err-set_event-clause-only
returns-in_err-set_event-clause-only c =
    work_of c.args.pause c.args.cx.now.moment c.args.slot.now c.in-Some.continuation c.args.cx.now
    c.set_event.new.cx
    c.in-Some.is c.set_event.ensures.only

pub returns-clause-only : goal.returns-clause-only
returns-clause-only c =
    work_of c.args.pause c.args.cx.now.moment c.args.slot.now c.in-Some.continuation c.args.cx.now
    c.set_event.new.cx
    c.in-Some.is c.set_event.ensures.only

pub returns-in_default-clause-only : goal.returns-in_default-clause-only
returns-in_default-clause-only c = only_none
    (IsWorkOfIf c.args.slot.now c.args.pause c.args.cx.now.moment) c.args.cx.now

pub returns-then-continuation-clause-only : goal.returns-then-continuation-clause-only
returns-then-continuation-clause-only c = only_none
    (IsWorkOfIf c.args.slot.now c.args.pause c.args.cx.now.moment) c.args.cx.now

pub returns-in_default-clause-adds : goal.returns-in_default-clause-adds
returns-in_default-clause-adds c = adds_dead c.args.cx.now 1 c.requires.turn
    (λ live. subst (HasLiveIf c.args.cx.now.log.state.live) c.in_default.is live)

pub returns-then-continuation-clause-adds : goal.returns-then-continuation-clause-adds
returns-then-continuation-clause-adds c = adds_none c.args.cx.now 1 c.requires.turn

pub returns-in_err-set_event-clause-adds : goal.returns-in_err-set_event-clause-adds
returns-in_err-set_event-clause-adds c = adds_err 1 1 c.from_residual.result _ c.from_residual.ensures.1
    (omega arith) c.in_err-set_event.ensures.adds

-- Whatever is set is of it.
pub returns-in_default-clause-seated : goal.returns-in_default-clause-seated
returns-in_default-clause-seated c = λ others seated. seated

pub returns-then-continuation-clause-seated : goal.returns-then-continuation-clause-seated
returns-then-continuation-clause-seated c = subst
    (λ s. KeepsSeated (c.args.slot.now ∷ []) (s ∷ []) c.args.cx.now c.args.cx.now) c.in-Some.is
    (λ others seated. seated)

pub returns-in_err-set_event-clause-seated : goal.returns-in_err-set_event-clause-seated
returns-in_err-set_event-clause-seated c =
    seated_slot c.args.slot.now c.in-Some.continuation c.in-Some.continuation c.args.pause
    c.args.cx.now.moment c.args.cx.now c.set_event.new.cx c.in-Some.is refl c.set_event.ensures.adds.keeps
    c.set_event.ensures.only

pub returns-clause-seated : goal.returns-clause-seated
returns-clause-seated c =
    seated_slot c.args.slot.now c.in-Some.continuation (record c.in-Some.continuation { roused = true })
    c.args.pause c.args.cx.now.moment c.args.cx.now c.set_event.new.cx c.in-Some.is refl
    c.set_event.ensures.adds.keeps
    c.set_event.ensures.only
