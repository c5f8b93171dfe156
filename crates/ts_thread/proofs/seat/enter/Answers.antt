-- Once the group is left that was won, the seat has got one turn; a group that was missed gave it none.
use Rattle.ts_slot.specs.Words.{view}
use Rattle.ts_thread.proofs.Seats.{missed_keeps, won_left}
use Rattle.ts_thread.proofs.seat.enter.Goals as goal

pub returns-in-Ok-clause-keeps : goal.returns-in-Ok-clause-keeps
returns-in-Ok-clause-keeps g c = λ left leaves.
    won_left (view c.args.seat.now) (view c.try_enter.new.seat) left c.args.k c.in-Ok.turn.number _
    c.in-Ok.ensures.won leaves

pub returns-in-Err-clause-none : goal.returns-in-Err-clause-none
returns-in-Err-clause-none g c = record {
  seen = c.in-Err._missed.seen;
  misses = c.in-Err.ensures.missed;
  keeps = missed_keeps (view c.args.seat.now) (view c.try_enter.new.seat) c.args.k c.in-Err._missed.seen 0
      c.in-Err.ensures.missed.is;
}
