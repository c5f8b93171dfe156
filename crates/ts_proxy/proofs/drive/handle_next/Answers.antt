-- What is handled is what the driver handles next, and the calls of its handlers.
use Rattle.std.proofs.Common.{[], ap, ◌∙◌}
use Rattle.ts_transform.specs.Flow.{flow}
use Rattle.ts_proxy.proofs.Pumping.{handled_flow}
use Rattle.ts_proxy.proofs.Serial.{within_handled}
use Rattle.ts_proxy.proofs.drive.handle_next.Goals as goal

pub returns-in-Ok-wake-clause-within : goal.returns-in-Ok-wake-clause-within
returns-in-Ok-wake-clause-within g c =
    let gives = rw c.in-Ok-Handled.field-0-is at c.in-Ok-Handled.ensures.gives in
    within_handled _ _ _ _ _ _ _ gives.0 c.wake.ensures.keeps.grows

-- What still comes out stays.
pub returns-in-Ok-wake-clause-flow : goal.returns-in-Ok-wake-clause-flow
returns-in-Ok-wake-clause-flow g c =
    ap (λ x. flow g.P.Transform.rest x []) c.wake.ensures.keeps.chain
    ∙ handled_flow g.P.Transform.rest c.args.group.now c.handle.new.self _ _ _ c.in-Ok-Handled.ensures.gives

pub returns-in-Err-wake-clause-flow : goal.returns-in-Err-wake-clause-flow
returns-in-Err-wake-clause-flow g c =
    ap (λ x. flow g.P.Transform.rest x []) c.wake.ensures.keeps.chain
    ∙ handled_flow g.P.Transform.rest c.args.group.now c.handle.new.self _ _ _ c.in-Ok-Handled.ensures.gives
