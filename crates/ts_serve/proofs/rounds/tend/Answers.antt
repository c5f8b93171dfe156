-- Step after step, the desk, the acceptor and the account go on, and no client is lost.
use Rattle.std.proofs.Common.{refl}
use Rattle.ts_slot.specs.Words.{view}
use Rattle.ts_serve.proofs.Accounts.{acceptor_again, goes_further, goes_at_acceptor, goes_at_start, lacks_any}
use Rattle.ts_serve.proofs.Balance.{all_row}
use Rattle.ts_serve.proofs.Desks.{seat_some}
use Rattle.ts_serve.proofs.rounds.tend.Goals as goal

pub returns-in_err-came : goal.returns-in_err-came
returns-in_err-came g c = record {
  at_desk = record {
    seat = c.accept_all.ensures.seat.0;
    pass = c.requires.here.0.pass;
    wheel = c.requires.here.0.wheel;
  };
  at_acceptor = c.accept_all.ensures.acceptor;
  goes = goes_at_acceptor c.args.desk.now (record c.args.desk.now { seat = c.accept_all.new.seat })
      c.args.acceptor.now c.accept_all.new.acceptor (g.N.ClientSource.seen c.args.net.now)
      (g.N.ClientSource.seen c.accept_all.new.net) refl c.accept_all.ensures.seat.1
      c.accept_all.ensures.keeps;
  all = lacks_any c.from_residual.result _ _ c.from_residual.ensures.1;
}

pub returns-in_err-start_handlers : goal.returns-in_err-start_handlers
returns-in_err-start_handlers g c = record {
  at_desk = c.start_handlers.ensures.desk;
  at_acceptor = acceptor_again c.accept_all.new.acceptor
      (record c.accept_all.new.acceptor { row = c.start_handlers.new.row })
      (g.N.ClientSource.seen c.accept_all.new.net) refl refl c.start_handlers.ensures.row
      c.accept_all.ensures.acceptor;
  goes = goes_further c.args.desk.now
      (record c.args.desk.now { seat = c.accept_all.new.seat }) c.start_handlers.new.desk c.args.acceptor.now
      c.accept_all.new.acceptor (record c.accept_all.new.acceptor { row = c.start_handlers.new.row })
      (g.N.ClientSource.seen c.args.net.now) (g.N.ClientSource.seen c.accept_all.new.net) (g.N.ClientSource.seen c.accept_all.new.net)
      (goes_at_acceptor c.args.desk.now (record c.args.desk.now { seat = c.accept_all.new.seat })
      c.args.acceptor.now c.accept_all.new.acceptor (g.N.ClientSource.seen c.args.net.now) (g.N.ClientSource.seen c.accept_all.new.net)
      refl c.accept_all.ensures.seat.1 c.accept_all.ensures.keeps)
      (goes_at_start (record c.args.desk.now { seat = c.accept_all.new.seat }) c.start_handlers.new.desk
      c.accept_all.new.acceptor (record c.accept_all.new.acceptor { row = c.start_handlers.new.row })
      (g.N.ClientSource.seen c.accept_all.new.net) c.start_handlers.ensures.keeps refl refl refl c.start_handlers.ensures.row);
  all = lacks_any c.from_residual-in_err-start_handlers.result _ _ c.from_residual-in_err-start_handlers.ensures.1;
}

pub returns-in_err-step_next : goal.returns-in_err-step_next
returns-in_err-step_next g c = record {
  at_desk = record {
    seat = c.step_next.ensures.seat.0;
    pass = c.start_handlers.ensures.desk.pass;
    wheel = c.start_handlers.ensures.desk.wheel;
  };
  at_acceptor = c.step_next.ensures.acceptor;
  goes = goes_further c.args.desk.now c.start_handlers.new.desk
      (record c.start_handlers.new.desk { seat = c.step_next.new.seat }) c.args.acceptor.now
      (record c.accept_all.new.acceptor { row = c.start_handlers.new.row }) c.step_next.new.acceptor
      (g.N.ClientSource.seen c.args.net.now) (g.N.ClientSource.seen c.accept_all.new.net) (g.N.ClientSource.seen c.step_next.new.net)
      (goes_further c.args.desk.now
      (record c.args.desk.now { seat = c.accept_all.new.seat }) c.start_handlers.new.desk c.args.acceptor.now
      c.accept_all.new.acceptor (record c.accept_all.new.acceptor { row = c.start_handlers.new.row })
      (g.N.ClientSource.seen c.args.net.now) (g.N.ClientSource.seen c.accept_all.new.net) (g.N.ClientSource.seen c.accept_all.new.net)
      (goes_at_acceptor c.args.desk.now (record c.args.desk.now { seat = c.accept_all.new.seat })
      c.args.acceptor.now c.accept_all.new.acceptor (g.N.ClientSource.seen c.args.net.now) (g.N.ClientSource.seen c.accept_all.new.net)
      refl c.accept_all.ensures.seat.1 c.accept_all.ensures.keeps)
      (goes_at_start (record c.args.desk.now { seat = c.accept_all.new.seat }) c.start_handlers.new.desk
      c.accept_all.new.acceptor (record c.accept_all.new.acceptor { row = c.start_handlers.new.row })
      (g.N.ClientSource.seen c.accept_all.new.net) c.start_handlers.ensures.keeps refl refl refl c.start_handlers.ensures.row))
      (goes_at_acceptor c.start_handlers.new.desk (record c.start_handlers.new.desk { seat = c.step_next.new.seat })
      (record c.accept_all.new.acceptor { row = c.start_handlers.new.row }) c.step_next.new.acceptor
      (g.N.ClientSource.seen c.accept_all.new.net) (g.N.ClientSource.seen c.step_next.new.net) refl
      (seat_some (view c.start_handlers.new.desk.seat) (view c.step_next.new.seat) 1 c.step_next.ensures.seat.1)
      c.step_next.ensures.keeps);
  all = lacks_any c.from_residual-in_err-step_next.result _ _ c.from_residual-in_err-step_next.ensures.1;
}

pub returns : goal.returns
returns g c = record {
  at_desk = record {
    seat = c.step_next.ensures.seat.0;
    pass = c.start_handlers.ensures.desk.pass;
    wheel = c.start_handlers.ensures.desk.wheel;
  };
  at_acceptor = c.step_next.ensures.acceptor;
  goes = goes_further c.args.desk.now c.start_handlers.new.desk
      (record c.start_handlers.new.desk { seat = c.step_next.new.seat }) c.args.acceptor.now
      (record c.accept_all.new.acceptor { row = c.start_handlers.new.row }) c.step_next.new.acceptor
      (g.N.ClientSource.seen c.args.net.now) (g.N.ClientSource.seen c.accept_all.new.net) (g.N.ClientSource.seen c.step_next.new.net)
      (goes_further c.args.desk.now
      (record c.args.desk.now { seat = c.accept_all.new.seat }) c.start_handlers.new.desk c.args.acceptor.now
      c.accept_all.new.acceptor (record c.accept_all.new.acceptor { row = c.start_handlers.new.row })
      (g.N.ClientSource.seen c.args.net.now) (g.N.ClientSource.seen c.accept_all.new.net) (g.N.ClientSource.seen c.accept_all.new.net)
      (goes_at_acceptor c.args.desk.now (record c.args.desk.now { seat = c.accept_all.new.seat })
      c.args.acceptor.now c.accept_all.new.acceptor (g.N.ClientSource.seen c.args.net.now) (g.N.ClientSource.seen c.accept_all.new.net)
      refl c.accept_all.ensures.seat.1 c.accept_all.ensures.keeps)
      (goes_at_start (record c.args.desk.now { seat = c.accept_all.new.seat }) c.start_handlers.new.desk
      c.accept_all.new.acceptor (record c.accept_all.new.acceptor { row = c.start_handlers.new.row })
      (g.N.ClientSource.seen c.accept_all.new.net) c.start_handlers.ensures.keeps refl refl refl c.start_handlers.ensures.row))
      (goes_at_acceptor c.start_handlers.new.desk (record c.start_handlers.new.desk { seat = c.step_next.new.seat })
      (record c.accept_all.new.acceptor { row = c.start_handlers.new.row }) c.step_next.new.acceptor
      (g.N.ClientSource.seen c.accept_all.new.net) (g.N.ClientSource.seen c.step_next.new.net) refl
      (seat_some (view c.start_handlers.new.desk.seat) (view c.step_next.new.seat) 1 c.step_next.ensures.seat.1)
      c.step_next.ensures.keeps);
  all = λ had. c.in_ok-step_next.ensures.all
      (all_row c.accept_all.new.acceptor.row.items c.start_handlers.new.row.items
      (g.N.ClientSource.seen c.accept_all.new.net) c.start_handlers.ensures.row (c.accept_all.ensures.all had));
}
