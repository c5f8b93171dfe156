-- A stage that must work is one of the chain's.
use Rattle.std.proofs.Common.{arith}
use Rattle.ts_request.proofs.Working.{must_within}
use Rattle.ts_request.proofs.passage.last_work.Goals as goal

pub stages-init : goal.stages-init
stages-init g c j above must =
    let chain = c.args.chain.now in
    let within = must_within chain.given chain.first chain.stages j must in
    let all = c.stages-above.ensures in omega (arith, above, within, all)

pub returns-then-must_pump : goal.returns-then-must_pump
returns-then-must_pump g c =
    let chain = c.args.chain.now in
    let must = c.must_pump.ensures.0 c.if-must_pump.true in
    (must_within chain.given chain.first chain.stages _ must, must)
