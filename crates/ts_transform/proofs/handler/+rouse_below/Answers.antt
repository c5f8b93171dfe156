use Rattle.std.proofs.Common.{arith}
use Rattle.ts_transform.proofs.Kept.{adds_none, adds_then, stages_same}
use Rattle.ts_transform.proofs.MaySet.{rousing_trans}
use Rattle.ts_transform.proofs.handler.+rouse_below.Goals as goal

pub returns-then-count-eq0-clause-adds : goal.returns-then-count-eq0-clause-adds
returns-then-count-eq0-clause-adds g t c = adds_none c.args.cx.now c.args.count c.requires.turn

pub returns-then-count-eq0-clause-stages : goal.returns-then-count-eq0-clause-stages
returns-then-count-eq0-clause-stages g t c = stages_same c.args.cx.now c.args.table.now

pub returns-clause-adds : goal.returns-clause-adds
returns-clause-adds g t c =
    adds_then 1 _ c.args.count c.rouse_if_ready.result c.rouse_below.result
    (omega (arith, c.if-count-eq0.false)) c.rouse_if_ready.ensures.adds c.rouse_below.ensures.adds

pub returns-clause-only : goal.returns-clause-only
returns-clause-only g t c =
    let one = c.rouse_if_ready in
    rousing_trans g.P.Transform.pause c.args.chain.now c.args.cx.now one.new.cx c.rouse_below.new.cx
    c.args.table.now one.new.table one.ensures.adds.keeps one.ensures.adds.grows.moment one.ensures.stages
    one.ensures.only c.rouse_below.ensures.adds.keeps c.rouse_below.ensures.only
