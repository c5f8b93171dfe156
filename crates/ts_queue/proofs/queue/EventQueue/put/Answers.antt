use Rattle.std.proofs.Common.{◌+◌, arith, sym}
use Rattle.ts_queue.proofs.Steps.{put_step}
use Rattle.ts_queue.proofs.queue.EventQueue.put.Goals as goal

pub push_as-pushed-requires-clause-rule : goal.push_as-pushed-requires-clause-rule
push_as-pushed-requires-clause-rule g c =
    let pass = c.args.pass.now in
    λ n. put_step n pass.seat.id pass.seat.me.view.client
    (record { putter = pass.number; serial = pass.serial + 1; token = c.args.token }) pass.has_share
    (sym pass.number_is) (omega arith)
