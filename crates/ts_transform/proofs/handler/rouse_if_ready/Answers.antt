use Rattle.std.proofs.Common.{arith, rules}
use Rattle.ts_transform.specs.Flow.{MustWork}
use Rattle.ts_transform.proofs.Kept.{adds_dead, adds_none, adds_weaker}
use Rattle.ts_transform.proofs.Living.{live_within, must_live}
use Rattle.ts_transform.proofs.MaySet.{rousing_ready}
use Rattle.ts_transform.proofs.handler.rouse_if_ready.Goals as goal

pub returns-clause-only : goal.returns-clause-only
returns-clause-only g c =
    let chain = c.args.chain.now in
    let must : MustWork chain c.args.at = search rules in
    rousing_ready g.P.Transform.pause chain c.args.table.now c.args.at c.pause.result c.args.cx.now
    c.rouse_at.new.cx must c.pause.ensures c.rouse_at.ensures.rouses

pub returns-then-not-must_pump-clause-adds : goal.returns-then-not-must_pump-clause-adds
returns-then-not-must_pump-clause-adds g c = adds_none c.args.cx.now 1 c.requires.turn

pub returns-then-at-table-clause-adds : goal.returns-then-at-table-clause-adds
returns-then-at-table-clause-adds g c =
    let chain = c.args.chain.now in
    let must : MustWork chain c.args.at = search rules in
    adds_dead c.args.cx.now 1 c.requires.turn
    (λ live. omega (
      arith,
      live_within c.args.cx.now.log.state.live c.args.table.now c.args.at
          (must_live chain c.args.table.now c.args.cx.now c.args.at must live),
      c.if-at-table.true,
    ))

pub returns-clause-adds : goal.returns-clause-adds
returns-clause-adds g c =
    let chain = c.args.chain.now in
    let must : MustWork chain c.args.at = search rules in
    adds_weaker 1 c.rouse_at.result (must_live chain c.rouse_at.new.table c.rouse_at.new.cx c.args.at must)
    c.rouse_at.ensures.adds
