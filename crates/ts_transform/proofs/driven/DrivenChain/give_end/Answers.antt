use Rattle.std.proofs.Common.{ap, sym}
use Rattle.ts_transform.proofs.Driving.{loses_found}
use Rattle.ts_transform.proofs.Kept.{adds_weaker}
use Rattle.ts_transform.proofs.Living.{live_stages}
use Rattle.ts_transform.proofs.driven.DrivenChain.give_end.Goals as goal

pub returns-clause-driven : goal.returns-clause-driven
returns-clause-driven g c = λ first was. c.rouse_first.ensures.driven first c.args.self.now.chain
    (sym (ap (λ x. x.stages) c.give_end.ensures.given)) was

pub returns-clause-adds : goal.returns-clause-adds
returns-clause-adds g c =
    let self = c.args.self.now in adds_weaker 1 c.rouse_first.result
    (live_stages self.chain c.give_end.new.self self.table.items c.args.cx.now
    (ap (λ x. x.stages) c.give_end.ensures.given)) c.rouse_first.ensures.adds

pub returns-clause-loses : goal.returns-clause-loses
returns-clause-loses g c =
    let self = c.args.self.now in
    loses_found c.rouse_first.result self c.rouse_first.new.self c.give_end.new.self c.args.cx.now
    c.rouse_first.new.cx
    (live_stages self.chain c.give_end.new.self self.table.items c.args.cx.now
    (ap (λ x. x.stages) c.give_end.ensures.given)) c.rouse_first.ensures.loses

pub returns-clause-same : goal.returns-clause-same
returns-clause-same g c = let seats = c.rouse_first.ensures.same in record
    { same = seats.same; seated = seats.seated }
