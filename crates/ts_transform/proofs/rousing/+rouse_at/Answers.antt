use Rattle.ts_transform.proofs.Kept.{adds_weaker, stages_behind, stages_front}
use Rattle.ts_transform.proofs.Living.{live_behind, live_front}
use Rattle.ts_transform.proofs.Setting.{front_rouses, rest_rouses, work_rousing}
use Rattle.ts_transform.proofs.rousing.+rouse_at.Goals as goal

pub returns-then-at-eq0-clause-stages : goal.returns-then-at-eq0-clause-stages
returns-then-at-eq0-clause-stages t c =
    stages_front c.args.cx.now c.rouse.new.cx c.rouse.ensures.adds.keeps c.in-Some.first.now c.rouse.new.slot
    c.in-Some.others.now c.args.table.now c.in-Some.ensures.cases.0 c.rouse.ensures.stage
    c.rouse.ensures.seated

pub returns-then-at-eq0-clause-rouses : goal.returns-then-at-eq0-clause-rouses
returns-then-at-eq0-clause-rouses t c =
    front_rouses c.args.pause c.args.at c.in-Some.first.now c.in-Some.others.now c.args.table.now
    c.args.cx.now c.rouse.new.cx c.in-Some.ensures.cases.0 c.if-at-eq0.true
    (λ roused. (c.rouse.ensures.rests roused).1)
    (work_rousing c.args.cx.now.roles c.args.pause c.args.cx.now.moment c.in-Some.first.now c.args.cx.now
    c.rouse.new.cx c.rouse.ensures.only)

pub returns-else-at-eq0-clause-rouses : goal.returns-else-at-eq0-clause-rouses
returns-else-at-eq0-clause-rouses t c =
    rest_rouses c.args.pause c.args.at c.in-Some.first.now c.in-Some.others.now c.args.table.now c.args.cx.now
    c.rouse_at.new.cx c.in-Some.ensures.cases.0 c.if-at-eq0.false c.rouse_at.ensures.rouses

pub returns-then-at-eq0-clause-adds : goal.returns-then-at-eq0-clause-adds
returns-then-at-eq0-clause-adds t c =
    adds_weaker 1 c.rouse.result (live_front c.rouse.new.cx.log.state.live c.rouse.new.slot
    c.in-Some.others.now c.args.at c.if-at-eq0.true) c.rouse.ensures.adds

pub returns-else-at-eq0-clause-adds : goal.returns-else-at-eq0-clause-adds
returns-else-at-eq0-clause-adds t c =
    adds_weaker 1 c.rouse_at.result (live_behind c.rouse_at.new.cx.log.state.live c.in-Some.first.now
    c.rouse_at.new.table c.args.at c.if-at-eq0.false) c.rouse_at.ensures.adds

pub returns-else-at-eq0-clause-stages : goal.returns-else-at-eq0-clause-stages
returns-else-at-eq0-clause-stages t c =
    stages_behind c.args.cx.now c.rouse_at.new.cx c.rouse_at.ensures.adds.keeps c.in-Some.first.now
    c.in-Some.others.now c.rouse_at.new.table c.args.table.now c.in-Some.ensures.cases.0
    c.rouse_at.ensures.stages
