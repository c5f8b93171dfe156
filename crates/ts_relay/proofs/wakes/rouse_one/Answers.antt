-- The continuation is roused if it must work, or the numbers or the memory lacked.
use Rattle.ts_relay.proofs.Duty.{rouses_one}
use Rattle.ts_relay.proofs.wakes.rouse_one.Goals as goal

pub returns-clause-rouses : goal.returns-clause-rouses
returns-clause-rouses c =
    rouses_one c.rouse_end.result c.args.must _ c.args.slot.now c.rouse_end.new.slot c.args.cx.now
    c.rouse_end.new.cx c.step_after.result c.step_after.ensures
    c.rouse_end.ensures.adds c.rouse_end.ensures.stage c.rouse_end.ensures.seated c.rouse_end.ensures.roused
    (λ rests. (c.rouse_end.ensures.rests rests).1)
