use Rattle.std.proofs.Common.{◌≡◌, ◌-◌, [], rules, length, length-drop, arith, ap, subst, ◌∙◌}
use Rattle.ts_transform.specs.Flow.{client_wait}
use Rattle.ts_transform.specs.Driving.{upstream_calls}
use Rattle.ts_proxy.specs.Sending.{for_client}
use Rattle.ts_proxy.proofs.Staying.{IsFront, passes_taken, stays_taken}
use Rattle.ts_proxy.proofs.drive.drain.Goals as goal

pub loop-block-preserved : goal.loop-block-preserved
loop-block-preserved g c =
    let from = c.args.world.now in
    let before = c.loop-block.world in
    let after = c.take.new.self in
    let block = subst (λ d. IsFront c.in-Some.block.now (client_wait d)) c.chain.ensures c.in-Some.ensures in
    let takes = c.take.ensures.takes in
    record {
      passes = λ tells. passes_taken _ _ _ _ _ _ (for_client before) c.in-Some.block.now c.in-Took.count
          (c.loop-block.invariant.passes tells)
          (c.in-Took.ensures.taken tells) block.2 c.in-Took.ensures.count.1 (takes.flow []);
      faults = search rules;
      falls =
          let less : length (for_client after) ≡ length (for_client before) - c.in-Took.count =
          ap length takes.wait ∙ length-drop c.in-Took.count (for_client before) in
          omega (
            arith,
            c.loop-block.invariant.falls,
            takes.falls [],
            ap upstream_calls
                c.take.ensures.kept.table,
            less,
            c.in-Took.ensures.count.1,
            block.1,
          );
      stays = stays_taken from before after c.loop-block.invariant.stays c.take.ensures.sound
          c.take.ensures.awake c.take.ensures.kept.running;
    }
