use Rattle.ts_queue.proofs.Steps.{take_step, look}
use Rattle.ts_queue.proofs.queue.EventQueue.take.Goals as goal

pub pop_as-taken-requires-clause-rule : goal.pop_as-taken-requires-clause-rule
pop_as-taken-requires-clause-rule g c =
    let pass = c.args.pass.now in (
      take_step pass.seat.id pass.seat.me.view.client pass.has_share,
      look
          pass.seat.id pass.seat.me.view.client,
    )
