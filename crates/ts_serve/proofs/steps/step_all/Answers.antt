-- Place after place, the seat, the acceptor and the account go on.
use Rattle.ts_slot.specs.Words.{view}
use Rattle.ts_serve.proofs.Accounts.{acceptor_on}
use Rattle.ts_serve.proofs.Desks.{seat_on, seat_some}
use Rattle.ts_serve.proofs.steps.step_all.Goals as goal

pub returns-in_err-step_next-clause-seat : goal.returns-in_err-step_next-clause-seat
returns-in_err-step_next-clause-seat g c = (
  c.step_next.ensures.seat.0,
  seat_on (view c.args.seat.now) (view c.places.seat) (view c.step_next.new.seat) c.places.invariant.1
      (seat_some (view c.places.seat) (view c.step_next.new.seat) 1 c.step_next.ensures.seat.1),
)

pub returns-in_err-step_next-clause-keeps : goal.returns-in_err-step_next-clause-keeps
returns-in_err-step_next-clause-keeps g c = acceptor_on (view c.args.seat.now).known (view c.places.seat).known
    (view c.step_next.new.seat).known c.args.acceptor.now c.places.acceptor c.step_next.new.acceptor (g.N.ClientSource.seen c.args.net.now)
    (g.N.ClientSource.seen c.places.net) (g.N.ClientSource.seen c.step_next.new.net) c.places.invariant.3
    c.step_next.ensures.keeps

pub places-preserved : goal.places-preserved
places-preserved g c = (
  c.step_next.ensures.seat.0,
  seat_on (view c.args.seat.now) (view c.places.seat) (view c.step_next.new.seat) c.places.invariant.1
      (seat_some (view c.places.seat) (view c.step_next.new.seat) 1 c.step_next.ensures.seat.1),
  c.step_next.ensures.acceptor,
  acceptor_on (view c.args.seat.now).known (view c.places.seat).known
      (view c.step_next.new.seat).known c.args.acceptor.now c.places.acceptor c.step_next.new.acceptor (g.N.ClientSource.seen c.args.net.now)
      (g.N.ClientSource.seen c.places.net) (g.N.ClientSource.seen c.step_next.new.net) c.places.invariant.3
      c.step_next.ensures.keeps,
  λ all. c.in_ok-step_next.ensures.all (c.places.invariant.4 all),
)
