use Rattle.ts_transform.proofs.Driving.{loses_found}
use Rattle.ts_transform.proofs.Kept.{adds_weaker}
use Rattle.ts_transform.proofs.Living.{live_taken}
use Rattle.ts_transform.proofs.driven.DrivenChain.take.Goals as goal

pub returns-clause-driven : goal.returns-clause-driven
returns-clause-driven g c = λ first was. c.rouse_last.ensures.driven first c.args.n c.args.self.now.chain
    c.take.ensures.takes c.take.ensures.given was

pub returns-clause-adds : goal.returns-clause-adds
returns-clause-adds g c =
    let self = c.args.self.now in
    adds_weaker 1 c.rouse_last.result (live_taken c.args.n self.chain c.take.new.self self.table.items
    c.args.cx.now c.take.ensures.takes) c.rouse_last.ensures.adds

pub returns-clause-loses : goal.returns-clause-loses
returns-clause-loses g c =
    let self = c.args.self.now in
    loses_found c.rouse_last.result self c.rouse_last.new.self c.take.new.self c.args.cx.now
    c.rouse_last.new.cx (live_taken c.args.n self.chain c.take.new.self self.table.items c.args.cx.now
    c.take.ensures.takes)
    c.rouse_last.ensures.loses

pub returns-clause-same : goal.returns-clause-same
returns-clause-same g c = let seats = c.rouse_last.ensures.same in record
    { same = seats.same; seated = seats.seated }
