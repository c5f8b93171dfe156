use Rattle.std.proofs.Common.{Some, arith, refl, subst, sym, ap, ◌∙◌}
use Rattle.ts_transform.specs.Driving.{AreOfStages}
use Rattle.ts_transform.proofs.Closing.{closed_any, closed_dead, closes_nobody, closes_some, others_any, others_same}
use Rattle.ts_transform.proofs.PassedErrors.{gives_up}
use Rattle.ts_transform.proofs.Seats.{seated_gone, seated_nobody}
use Rattle.ts_transform.proofs.Setting.{lessens_less, lessens_none}
use Rattle.ts_transform.proofs.handler.destroy_at.Goals as goal

pub returns-in-Some-clause-lessens : goal.returns-in-Some-clause-lessens
returns-in-Some-clause-lessens c = lessens_less c.args.cx.now c.destroy-destroyed.new.self
    c.destroy-destroyed.ensures.grows c.destroy-destroyed.ensures.destroys.turn
    c.destroy-destroyed.ensures.destroys.less

pub returns-in_default-clause-lessens : goal.returns-in_default-clause-lessens
returns-in_default-clause-lessens c = lessens_none c.args.cx.now c.requires.turn

-- No event of it is pending.
pub returns-in-Some-clause-table : goal.returns-in-Some-clause-table
returns-in-Some-clause-table c = (
  c.take_at.ensures.table,
  seated_gone c.args.table.now c.take_at.new.table c.args.at c.in-Some.continuation c.args.cx.now
      c.destroy-destroyed.new.self c.destroy-destroyed.result
      (sym c.take_at.ensures.taken ∙ ap Some c.in-Some.is)
      c.take_at.ensures.table c.known.ensures c.destroy-destroyed.ensures.grows
      c.destroy-destroyed.ensures.destroys,
)

pub returns-in_default-clause-table : goal.returns-in_default-clause-table
returns-in_default-clause-table c = (
  c.take_at.ensures.table,
  seated_nobody c.args.table.now c.take_at.new.table c.args.at c.args.cx.now
      (sym c.take_at.ensures.taken ∙ ap Some c.in_default.is) c.take_at.ensures.table,
)

-- The calls that others may still make are as many at most, and its own are given up.
pub returns-in-Some-clause-pays : goal.returns-in-Some-clause-pays
returns-in-Some-clause-pays c =
    gives_up c.args.table.now c.take_at.new.table c.args.at c.args.cx.now c.destroy-destroyed.new.self
    c.take_at.ensures.table c.destroy-destroyed.ensures.destroys.less.count

pub returns-in_default-clause-pays : goal.returns-in_default-clause-pays
returns-in_default-clause-pays c = gives_up c.args.table.now c.take_at.new.table c.args.at c.args.cx.now
    c.args.cx.now c.take_at.ensures.table (omega arith)

-- The other stages keep theirs, and whoever is no stage.
pub returns-in-Some-clause-of_stages : goal.returns-in-Some-clause-of_stages
returns-in-Some-clause-of_stages c = λ first stages.
    closed_any c.args.cx.now c.destroy-destroyed.new.self c.destroy-destroyed.result first c.args.at
    c.args.table.now c.take_at.new.table c.in-Some.continuation
    (sym c.take_at.ensures.taken ∙ ap Some c.in-Some.is) c.take_at.ensures.table
    c.destroy-destroyed.ensures.destroys stages

pub returns-in_default-clause-of_stages : goal.returns-in_default-clause-of_stages
returns-in_default-clause-of_stages c = λ first stages.
    let now = c.args.cx.now in
    subst (AreOfStages now.log.state.pending now.roles first) (sym c.take_at.ensures.table)
    (closed_dead now now first c.args.at c.args.table.now refl refl stages)

pub returns-in-Some-clause-others : goal.returns-in-Some-clause-others
returns-in-Some-clause-others c = λ first.
    others_any c.args.cx.now c.destroy-destroyed.new.self c.destroy-destroyed.result first c.args.at
    c.args.table.now c.in-Some.continuation (sym c.take_at.ensures.taken ∙ ap Some c.in-Some.is)
    c.destroy-destroyed.ensures.destroys

pub returns-in_default-clause-others : goal.returns-in_default-clause-others
returns-in_default-clause-others c = λ first. others_same first c.args.table.now c.args.cx.now c.args.cx.now
    refl refl

-- The continuation is gone, and each other keeps its events.
pub returns-in-Some-clause-closed : goal.returns-in-Some-clause-closed
returns-in-Some-clause-closed c =
    closes_some c.args.cx.now c.destroy-destroyed.new.self c.destroy-destroyed.result c.args.at
    c.args.table.now c.in-Some.continuation (sym c.take_at.ensures.taken ∙ ap Some c.in-Some.is)
    c.destroy-destroyed.ensures.destroys

pub returns-in_default-clause-closed : goal.returns-in_default-clause-closed
returns-in_default-clause-closed c =
    closes_nobody c.args.cx.now c.args.at c.args.table.now (sym c.take_at.ensures.taken ∙ ap Some
    c.in_default.is)
