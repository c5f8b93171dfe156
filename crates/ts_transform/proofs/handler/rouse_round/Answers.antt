use Rattle.std.proofs.Common.{◌∙◌, arith}
use Rattle.ts_transform.specs.Driving.{AddsEvents}
use Rattle.ts_transform.specs.Cover.{AreAllLive}
use Rattle.ts_transform.proofs.Called.{called_kept}
use Rattle.ts_transform.proofs.Kept.{adds_err, adds_then, keeps_trans, stages_trans}
use Rattle.ts_transform.proofs.MaySet.{rousing_trans}
use Rattle.ts_lists.proofs.Results.{on_ok_any}
use Rattle.ts_transform.proofs.handler.rouse_round.Goals as goal

pub returns-in_err-rouse_before-clause-only : goal.returns-in_err-rouse_before-clause-only
returns-in_err-rouse_before-clause-only g c =
    let one = c.rouse_if_ready in
    rousing_trans g.P.Transform.pause c.args.chain.now c.args.cx.now one.new.cx c.rouse_before.new.cx
    c.args.table.now one.new.table
    one.ensures.adds.keeps one.ensures.adds.grows.moment one.ensures.stages one.ensures.only
    c.rouse_before.ensures.adds.keeps c.rouse_before.ensures.only

pub returns-clause-only : goal.returns-clause-only
returns-clause-only g c =
    let pause = g.P.Transform.pause in
    let chain = c.args.chain.now in
    let one = c.rouse_if_ready in
    let two = c.rouse_before in
    rousing_trans pause chain c.args.cx.now two.new.cx c.rouse_if_ready-2.new.cx c.args.table.now
    two.new.table
    (keeps_trans one.ensures.adds.keeps two.ensures.adds.keeps)
    (two.ensures.adds.grows.moment ∙ one.ensures.adds.grows.moment)
    (stages_trans one.ensures.stages two.ensures.stages)
    (rousing_trans pause chain c.args.cx.now one.new.cx two.new.cx c.args.table.now one.new.table
    one.ensures.adds.keeps one.ensures.adds.grows.moment one.ensures.stages one.ensures.only
    two.ensures.adds.keeps two.ensures.only)
    c.rouse_if_ready-2.ensures.adds.keeps c.rouse_if_ready-2.ensures.only

pub returns-clause-called : goal.returns-clause-called
returns-clause-called g c = on_ok_any c.rouse_if_ready-2.result (λ j before pause must.
    called_kept c.rouse_before.new.cx c.rouse_if_ready-2.new.cx c.args.table.now c.rouse_if_ready.new.table
    c.rouse_before.new.table c.rouse_if_ready-2.new.table j
    (c.rouse_if_ready.ensures.others j (λ e. omega (arith, e, before)))
    (c.rouse_if_ready-2.ensures.others j (λ e. omega (arith, e, before)))
    c.rouse_if_ready-2.ensures.adds.keeps
    (c.in_ok-rouse_before.ensures.called j before pause must))

pub returns-in_err-rouse_before-clause-adds : goal.returns-in_err-rouse_before-clause-adds
returns-in_err-rouse_before-clause-adds g c =
    let failed : AddsEvents 1 (AreAllLive c.args.chain.now c.rouse_before.new.table c.rouse_before.new.cx)
    c.from_residual-in_err-rouse_before.result c.rouse_if_ready.new.cx c.rouse_before.new.cx =
    adds_err 1 1 c.from_residual-in_err-rouse_before.result _ c.from_residual-in_err-rouse_before.ensures.1
    (omega arith) c.in_err-rouse_before.ensures.adds in
    adds_then 1 1 3 c.rouse_if_ready.result c.from_residual-in_err-rouse_before.result (omega arith)
    c.rouse_if_ready.ensures.adds failed

pub returns-clause-adds : goal.returns-clause-adds
returns-clause-adds g c =
    adds_then 1 2 3 c.rouse_if_ready.result c.rouse_if_ready-2.result (omega arith)
    c.rouse_if_ready.ensures.adds
    (adds_then 1 1 2 c.rouse_before.result c.rouse_if_ready-2.result (omega arith) c.rouse_before.ensures.adds
    c.rouse_if_ready-2.ensures.adds)

pub returns-clause-stages : goal.returns-clause-stages
returns-clause-stages g c = stages_trans (stages_trans c.rouse_if_ready.ensures.stages
    c.rouse_before.ensures.stages) c.rouse_if_ready-2.ensures.stages
