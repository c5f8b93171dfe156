use Rattle.std.proofs.Common.{ap, refl, subst, sym}
use Rattle.ts_transform.specs.Driven.{SameSeats}
use Rattle.ts_transform.proofs.Driving.{loses_found}
use Rattle.ts_transform.proofs.Kept.{adds_lacks, adds_weaker}
use Rattle.ts_transform.proofs.Living.{live_stages}
use Rattle.ts_transform.proofs.driven.DrivenChain.give.Goals as goal

pub returns-in-Err-clause-adds : goal.returns-in-Err-clause-adds
returns-in-Err-clause-adds g c = adds_lacks c.args.cx.now 1 c.requires.turn

pub returns-clause-driven : goal.returns-clause-driven
returns-clause-driven g c = λ first was. c.rouse_first.ensures.driven first c.args.self.now.chain
    (sym (ap (λ x. x.stages) c.in_default.ensures.ok.chain)) was

pub returns-clause-adds : goal.returns-clause-adds
returns-clause-adds g c =
    let self = c.args.self.now in adds_weaker 1 c.rouse_first.result
    (live_stages self.chain c.give.new.self self.table.items c.args.cx.now
    (ap (λ x. x.stages) c.in_default.ensures.ok.chain)) c.rouse_first.ensures.adds

pub returns-clause-loses : goal.returns-clause-loses
returns-clause-loses g c =
    let self = c.args.self.now in
    loses_found c.rouse_first.result self c.rouse_first.new.self c.give.new.self c.args.cx.now
    c.rouse_first.new.cx
    (live_stages self.chain c.give.new.self self.table.items c.args.cx.now
    (ap (λ x. x.stages) c.in_default.ensures.ok.chain)) c.rouse_first.ensures.loses

pub returns-clause-same : goal.returns-clause-same
returns-clause-same g c = let seats = c.rouse_first.ensures.same in record
    { same = seats.same; seated = seats.seated }

pub returns-in-Err-clause-same : goal.returns-in-Err-clause-same
returns-in-Err-clause-same g c =
    let self = c.args.self.now in subst (λ d. SameSeats self d c.args.cx.now c.args.cx.now)
    (sym c.lose.ensures) (record { same = refl; seated = λ others seated. seated })
