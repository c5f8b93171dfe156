use Rattle.ts_queue.proofs.Steps.{join_step}
use Rattle.ts_queue.proofs.queue.EventQueue.join.Goals as goal

pub absorb-requires-clause-rule : goal.absorb-requires-clause-rule
absorb-requires-clause-rule c =
    let into = c.args.into.now in
    let from = c.args.from in
    join_step into.seat.id into.seat.me.view.client from.seat.id from.seat.me.view.client into.has_share
