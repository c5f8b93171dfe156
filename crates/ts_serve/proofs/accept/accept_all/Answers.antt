-- Client after client, the seat, the acceptor and the account go on.
use Rattle.std.proofs.Common.{◌≡◌, false, true}
use Rattle.ts_slot.specs.Words.{view}
use Rattle.ts_serve.proofs.Accounts.{acceptor_on}
use Rattle.ts_serve.proofs.Desks.{seat_on, seat_some}
use Rattle.ts_serve.proofs.accept.accept_all.Goals as goal

pub returns-in_err-accept_one-clause-seat : goal.returns-in_err-accept_one-clause-seat
returns-in_err-accept_one-clause-seat g c = (
  c.accept_one.ensures.seat.0,
  seat_on (view c.args.seat.now) (view c.arrivals.seat) (view c.accept_one.new.seat) c.arrivals.invariant.1
      (seat_some (view c.arrivals.seat) (view c.accept_one.new.seat) 1 c.accept_one.ensures.seat.1),
)

pub returns-in_err-accept_one-clause-keeps : goal.returns-in_err-accept_one-clause-keeps
returns-in_err-accept_one-clause-keeps g c = acceptor_on (view c.args.seat.now).known (view c.arrivals.seat).known
    (view c.accept_one.new.seat).known c.args.acceptor.now c.arrivals.acceptor c.accept_one.new.acceptor (g.N.ClientSource.seen c.args.net.now)
    (g.N.ClientSource.seen c.arrivals.net) (g.N.ClientSource.seen c.accept_one.new.net) c.arrivals.invariant.3
    c.accept_one.ensures.keeps

pub returns-then-is_none-clause-seat : goal.returns-then-is_none-clause-seat
returns-then-is_none-clause-seat g c = (
  c.accept_one.ensures.seat.0,
  seat_on (view c.args.seat.now) (view c.arrivals.seat) (view c.accept_one.new.seat) c.arrivals.invariant.1
      (seat_some (view c.arrivals.seat) (view c.accept_one.new.seat) 1 c.accept_one.ensures.seat.1),
)

pub returns-then-is_none-clause-keeps : goal.returns-then-is_none-clause-keeps
returns-then-is_none-clause-keeps g c = acceptor_on (view c.args.seat.now).known (view c.arrivals.seat).known
    (view c.accept_one.new.seat).known c.args.acceptor.now c.arrivals.acceptor c.accept_one.new.acceptor (g.N.ClientSource.seen c.args.net.now)
    (g.N.ClientSource.seen c.arrivals.net) (g.N.ClientSource.seen c.accept_one.new.net) c.arrivals.invariant.3
    c.accept_one.ensures.keeps

pub arrivals-preserved : goal.arrivals-preserved
arrivals-preserved g c = (
  c.accept_one.ensures.seat.0,
  seat_on (view c.args.seat.now) (view c.arrivals.seat) (view c.accept_one.new.seat) c.arrivals.invariant.1
      (seat_some (view c.arrivals.seat) (view c.accept_one.new.seat) 1 c.accept_one.ensures.seat.1),
  c.accept_one.ensures.acceptor,
  acceptor_on (view c.args.seat.now).known (view c.arrivals.seat).known
      (view c.accept_one.new.seat).known c.args.acceptor.now c.arrivals.acceptor c.accept_one.new.acceptor (g.N.ClientSource.seen c.args.net.now)
      (g.N.ClientSource.seen c.arrivals.net) (g.N.ClientSource.seen c.accept_one.new.net) c.arrivals.invariant.3
      c.accept_one.ensures.keeps,
  λ all. c.accept_one.ensures.all (c.arrivals.invariant.4 all),
  λ is. absurd (let wrong : true ≡ false = is in cc),
)
