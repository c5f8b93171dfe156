-- Group after group is idle, or waits.
use Rattle.std.proofs.Common.{All, length, subst, arith, ◌≤◌}
use Rattle.std.proofs.lemmas.List.{take_all}
use Rattle.ts_serve.specs.Leftover.{IsIdleOrWaits}
use Rattle.ts_serve.proofs.Leftovers.{all_one_more}
use Rattle.ts_serve.proofs.leftover.are_idle.Goals as goal

pub loop-group-preserved : goal.loop-group-preserved
loop-group-preserved g c =
    all_one_more (IsIdleOrWaits g.W.Handler.may_wait) c.args.groups.now c.loop-group.group-index
    c.group-item.result c.loop-group-test.true c.group-item.is
    (c.is_idle_or_waits.ensures c.if-not-is_idle_or_waits.false) c.loop-group.invariant

pub returns : goal.returns
returns g c = λ yes.
    let ends = c.loop-group-test.false in
    let all : length c.args.groups.now ≤ c.loop-group.group-index = omega arith in
    subst (All (IsIdleOrWaits g.W.Handler.may_wait)) (take_all c.loop-group.group-index c.args.groups.now all)
    c.loop-group.invariant
