-- An end is roused as any continuation is, if it must work.
use Rattle.ts_transform.proofs.Kept.{adds_none}
use Rattle.ts_transform.proofs.Setting.{work_rousing}
use Rattle.ts_transform.proofs.link_ends.rouse_end.Goals as goal

pub returns-then-not-must-clause-adds : goal.returns-then-not-must-clause-adds
returns-then-not-must-clause-adds c = adds_none c.args.cx.now 1 c.requires.turn

pub returns-clause-only : goal.returns-clause-only
returns-clause-only c =
    work_rousing c.args.cx.now.roles c.args.after c.args.cx.now.moment c.args.slot.now c.args.cx.now
    c.rouse.new.cx
    c.rouse.ensures.only

pub returns-clause-work : goal.returns-clause-work
returns-clause-work c = (c.rouse.ensures.only, c.rouse.ensures.roused.1)

pub returns-clause-roused : goal.returns-clause-roused
returns-clause-roused c = λ must. c.rouse.ensures.roused.0
