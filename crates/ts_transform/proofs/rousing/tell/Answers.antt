use Rattle.std.proofs.Common.{◌≡◌, ◌+◌, Ok, Err, arith, sym, ap, ◌∙◌}
use Rattle.std.proofs.lemmas.Bool.{ltb-true}
use Rattle.ts_group.specs.Context.{role_at}
use Rattle.ts_transform.specs.Driving.{IsTelling}
use Rattle.ts_transform.proofs.Kept.{adds_err, adds_none, adds_ok, adds_weaker, set_adds, set_keeps}
use Rattle.ts_transform.proofs.Seating.{key_there, seated_set}
use Rattle.ts_transform.proofs.Living.{slot_there}
use Rattle.ts_transform.proofs.Setting.{named_slot, set_only}
use Rattle.ts_transform.proofs.rousing.tell.Goals as goal

pub returns-clause-only : goal.returns-clause-only
returns-clause-only c = λ first named.
    let roles = c.args.cx.now.roles in
    let table = c.args.table.now in
    let slot = c.in-Some-Some.field-0.now in
    let lookup = c.in-Some-Some.ensures.lookup in
    let named_one = named_slot roles first c.args.at table slot c.in-Some-Some.continuation
    (ltb-true c.args.at _ (sym lookup.0)) (sym lookup.1 ∙ c.in-Some-Some.field-0-is) named in
    set_only c.args.cx.now c.call.new.self c.call.result c.in-Some-Some.continuation.key c.args.event _
    (IsTelling c.args.event (first + c.args.at) roles) c.call.ensures.sets
    (λ p key event due. record {
      event_is = event;
      role_is = ap (λ k. role_at k.index roles) key ∙ named_one;
    })

pub returns-in_default-clause-adds : goal.returns-in_default-clause-adds
returns-in_default-clause-adds c = adds_none c.args.cx.now 1 c.requires.turn

pub returns-in_err-call-clause-adds : goal.returns-in_err-call-clause-adds
returns-in_err-call-clause-adds c =
    let table = c.args.table.now in
    let lookup = c.in-Some-Some.ensures.lookup in
    let there = slot_there table c.args.at c.in-Some-Some.field-0.now c.in-Some-Some.continuation
    (ltb-true c.args.at _ (sym lookup.0)) (sym lookup.1 ∙ c.in-Some-Some.field-0-is) in
    adds_weaker 1 c.from_residual.result (λ live. live c.args.at c.in-Some-Some.continuation there)
    (adds_err 1 1 c.from_residual.result _ c.from_residual.ensures.1 (omega arith)
    (set_adds c.args.cx.now c.call.new.self (Err _) c.in-Some-Some.continuation.key c.args.event _
    c.call.ensures.grows c.in_err-call.ensures.sets c.call.ensures.roles))

pub returns-clause-adds : goal.returns-clause-adds
returns-clause-adds c =
    adds_ok 1 _ tt (set_adds c.args.cx.now c.call.new.self (Ok _) c.in-Some-Some.continuation.key c.args.event
    _ c.call.ensures.grows c.in_ok-call.ensures.sets c.call.ensures.roles)

-- It is of the continuation that is told.
pub returns-in_default-clause-seated : goal.returns-in_default-clause-seated
returns-in_default-clause-seated c = λ others seated. seated

pub returns-in_err-call-clause-seated : goal.returns-in_err-call-clause-seated
returns-in_err-call-clause-seated c =
    let table = c.args.table.now in
    let key = c.in-Some-Some.continuation.key in
    let lookup = c.in-Some-Some.ensures.lookup in
    let there = slot_there table c.args.at c.in-Some-Some.field-0.now c.in-Some-Some.continuation
    (ltb-true c.args.at _ (sym lookup.0)) (sym lookup.1 ∙ c.in-Some-Some.field-0-is) in
    seated_set table table key c.args.cx.now c.call.new.self
    (set_keeps c.args.cx.now c.call.new.self c.call.result key c.args.event _ c.call.ensures.sets
    c.call.ensures.roles)
    (set_only c.args.cx.now c.call.new.self c.call.result key c.args.event _ (λ p. p.key ≡ key)
    c.call.ensures.sets (λ p is event due. is))
    (key_there table c.args.at c.in-Some-Some.continuation there) (λ k has. has)

pub returns-clause-seated : goal.returns-clause-seated
returns-clause-seated c =
    let table = c.args.table.now in
    let key = c.in-Some-Some.continuation.key in
    let lookup = c.in-Some-Some.ensures.lookup in
    let there = slot_there table c.args.at c.in-Some-Some.field-0.now c.in-Some-Some.continuation
    (ltb-true c.args.at _ (sym lookup.0)) (sym lookup.1 ∙ c.in-Some-Some.field-0-is) in
    seated_set table table key c.args.cx.now c.call.new.self
    (set_keeps c.args.cx.now c.call.new.self c.call.result key c.args.event _ c.call.ensures.sets
    c.call.ensures.roles)
    (set_only c.args.cx.now c.call.new.self c.call.result key c.args.event _ (λ p. p.key ≡ key)
    c.call.ensures.sets (λ p is event due. is))
    (key_there table c.args.at c.in-Some-Some.continuation there) (λ k has. has)
