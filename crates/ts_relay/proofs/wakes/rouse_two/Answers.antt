-- Both ends are roused that must work, each with its pause, or memory lacked for the first.
use Rattle.ts_relay.proofs.BodyTimes.{ends_both, ends_first}
use Rattle.ts_relay.proofs.Duty.{rouses_both, rouses_lacks}
use Rattle.ts_relay.proofs.wakes.rouse_two.Goals as goal

pub returns-in_default-clause-rouses : goal.returns-in_default-clause-rouses
returns-in_default-clause-rouses c =
    rouses_lacks c.rouse_one.result c.args.writes c.args.reads c.args.main.now c.rouse_one.new.slot
    c.args.reader.now c.args.cx.now c.rouse_one.new.cx c.rouse_one.ensures.rouses

pub returns-in_default-clause-due : goal.returns-in_default-clause-due
returns-in_default-clause-due c =
    ends_first c.args.pauses.0 c.args.pauses.1 c.args.main.now c.args.reader.now c.args.cx.now
    c.rouse_one.new.cx c.rouse_one.ensures.due

pub returns-clause-rouses : goal.returns-clause-rouses
returns-clause-rouses c =
    rouses_both c.rouse_one-2.result c.args.writes c.args.reads c.args.main.now c.rouse_one.new.slot
    c.args.reader.now c.rouse_one-2.new.slot c.args.cx.now c.rouse_one.new.cx c.rouse_one-2.new.cx
    c.known.ensures c.in-Goes.ensures.rouses c.rouse_one-2.ensures.rouses

pub returns-clause-due : goal.returns-clause-due
returns-clause-due c =
    ends_both c.args.pauses.0 c.args.pauses.1 c.args.main.now c.args.reader.now c.args.cx.now
    c.rouse_one.new.cx c.rouse_one-2.new.cx c.rouse_one.ensures.rouses.adds.grows.moment
    c.rouse_one.ensures.rouses.adds.keeps c.rouse_one-2.ensures.rouses.adds.keeps c.rouse_one.ensures.due
    c.rouse_one-2.ensures.due
