use Rattle.ts_queue.proofs.Steps.{split_step}
use Rattle.ts_queue.proofs.queue.EventQueue.split.Goals as goal

pub another-seat-requires-clause-rule : goal.another-seat-requires-clause-rule
another-seat-requires-clause-rule c =
    let pass = c.args.pass.now in split_step pass.seat.id pass.seat.me.view.client c.requires.share
    c.requires.free
