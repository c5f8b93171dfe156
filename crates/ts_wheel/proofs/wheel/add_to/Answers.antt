use Rattle.std.proofs.Common.{◌++◌, ap, ◌∙◌, arith}
use Rattle.std.proofs.lemmas.Result.{on_ok_weaker}
use Rattle.ts_lists.proofs.Results.{either_way}
use Rattle.ts_wheel.proofs.Parted.{added-past, added-lap, added-after, parted_past, parted_lap, parted_after}
use Rattle.ts_wheel.proofs.wheel.add_to.Goals as goal

pub returns-then-due-start-clause-parted : goal.returns-then-due-start-clause-parted
returns-then-due-start-clause-parted g c =
    let start = c.start-start.ensures.start in
    parted_past c.args.due c.args.token c.args.past.now c.add.new.self c.args.lap.now c.args.later.now
    c.requires (omega arith) (either_way c.add.result _ _ c.add.ensures.ok c.add.ensures.err)

pub returns-then-due-start-clause-ok : goal.returns-then-due-start-clause-ok
returns-then-due-start-clause-ok g c =
    let start = c.start-start.ensures.start in
    let lap = c.args.lap.now in
    let later = c.args.later.now in
    on_ok_weaker c.add.result (λ e. ap (λ zs. zs ++ (lap.tokens ++ later)) e ∙ added-past c.args.due
    c.args.token c.args.past.now lap later c.requires (omega arith)) c.add.ensures.ok

pub returns-then-due-start-2-clause-parted : goal.returns-then-due-start-2-clause-parted
returns-then-due-start-2-clause-parted g c =
    let start = c.start-start.ensures.start in
    let add = c.add-then-due-start-2 in
    parted_lap c.args.due c.args.token c.args.past.now c.args.lap.now add.new.self c.args.later.now c.requires
    (omega arith) (omega arith) add.ensures.start
    (either_way add.result _ _ add.ensures.ok add.ensures.err)

pub returns-then-due-start-2-clause-ok : goal.returns-then-due-start-2-clause-ok
returns-then-due-start-2-clause-ok g c =
    let start = c.start-start.ensures.start in
    let past = c.args.past.now in
    let later = c.args.later.now in
    let add = c.add-then-due-start-2 in
    on_ok_weaker add.result (λ e. ap (λ zs. past ++ (zs ++ later)) e ∙ added-lap c.args.due c.args.token past
    c.args.lap.now later c.requires (omega arith) (omega arith)) add.ensures.ok

pub returns-else-due-start-2-clause-parted : goal.returns-else-due-start-2-clause-parted
returns-else-due-start-2-clause-parted g c =
    let start = c.start-start.ensures.start in
    let add = c.add-else-due-start-2 in
    parted_after c.args.due c.args.token c.args.past.now c.args.lap.now c.args.later.now add.new.self
    c.requires (omega arith) (either_way add.result _ _ add.ensures.ok add.ensures.err)

pub returns-else-due-start-2-clause-ok : goal.returns-else-due-start-2-clause-ok
returns-else-due-start-2-clause-ok g c =
    let start = c.start-start.ensures.start in
    let past = c.args.past.now in
    let lap = c.args.lap.now in
    let add = c.add-else-due-start-2 in
    on_ok_weaker add.result (λ e. ap (λ zs. past ++ (lap.tokens ++ zs)) e ∙ added-after c.args.due
    c.args.token past lap c.args.later.now c.requires (omega arith)) add.ensures.ok
