use Rattle.std.proofs.Common.{◌+◌, ◌-◌, arith}
use Rattle.ts_transform.proofs.Kept.{adds_none}
use Rattle.ts_transform.proofs.Setting.{only_weaker}
use Rattle.ts_transform.specs.Driving.{IsTelling, IsTellingBefore}
use Rattle.ts_transform.proofs.handler.tell_before.Goals as goal

pub returns-then-at-eq0-clause-adds : goal.returns-then-at-eq0-clause-adds
returns-then-at-eq0-clause-adds c = adds_none c.args.cx.now 1 c.requires.turn

pub returns-clause-only : goal.returns-clause-only
returns-clause-only c = λ first named.
    let roles = c.args.cx.now.roles in
    only_weaker (IsTelling c.args.event (first + (c.args.at - 1)) roles)
    (IsTellingBefore c.args.event first c.args.at roles) c.args.cx.now c.tell.new.cx
    (λ p telling. record {
      place = c.args.at - 1;
      before = omega (arith, c.if-at-eq0.false);
      telling = telling;
    })
    (c.tell.ensures.only first named)

pub returns-then-at-eq0-clause-seated : goal.returns-then-at-eq0-clause-seated
returns-then-at-eq0-clause-seated c = λ others seated. seated
