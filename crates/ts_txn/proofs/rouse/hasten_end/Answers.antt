-- The first late event of the continuation was brought forward, or there is none.
use Rattle.std.proofs.Common.{Option, refl, subst, sym}
use Rattle.ts_group.proofs.Grows.{grows_refl}
use Rattle.ts_transform.specs.declared.continuation.StageContinuation.{StageContinuation}
use Rattle.ts_txn.specs.Rousing.{HastensEnd}
use Rattle.ts_txn.proofs.Forward.{work_hastened, work_same}
use Rattle.ts_txn.proofs.rouse.hasten_end.Goals as goal

-- There is no such continuation.
pub returns-in_default-clause-hastens : goal.returns-in_default-clause-hastens
returns-in_default-clause-hastens c =
    subst (λ (end : Option StageContinuation). HastensEnd end c.args.cx.now c.args.cx.now)
    (sym c.in_default.is) refl

pub returns-in_default-clause-keeps : goal.returns-in_default-clause-keeps
returns-in_default-clause-keeps c = work_same 1 c.args.cx.now

pub returns-in_default-clause-grows : goal.returns-in_default-clause-grows
returns-in_default-clause-grows c = grows_refl c.args.cx.now

-- It was told to.
pub returns-clause-hastens : goal.returns-clause-hastens
returns-clause-hastens c =
    subst (λ (end : Option StageContinuation). HastensEnd end c.args.cx.now c.hasten.new.self)
    (sym c.in-Some.is)
    (c.hasten.result, c.hasten.ensures.hastens, c.hasten.ensures.roles, c.hasten.ensures.calls)

pub returns-clause-keeps : goal.returns-clause-keeps
returns-clause-keeps c =
    work_hastened c.args.cx.now c.hasten.new.self c.in-Some.continuation.key c.hasten.result c.known.ensures
    c.hasten.ensures.hastens c.hasten.ensures.roles
