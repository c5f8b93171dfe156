-- Step after step, the desk, the acceptor and the account go on, and no client is lost.
use Rattle.std.proofs.Common.{refl}
use Rattle.ts_serve.proofs.Accounts.{goes_further, goes_at_acceptor, goes_at_desk, lacks_any}
use Rattle.ts_serve.proofs.rounds.take_round.Goals as goal

pub returns-in_err-came : goal.returns-in_err-came
returns-in_err-came g c = record {
  at_desk = c.tend.ensures.at_desk;
  at_acceptor = c.tend.ensures.at_acceptor;
  goes = c.tend.ensures.goes;
  all = lacks_any c.from_residual.result _ _ c.from_residual.ensures.1;
}

pub returns-in_err-turn_desk : goal.returns-in_err-turn_desk
returns-in_err-turn_desk g c = record {
  at_desk = c.turn_desk.ensures.desk;
  at_acceptor = c.tend.ensures.at_acceptor;
  goes = goes_further c.args.desk.now c.tend.new.desk c.turn_desk.new.desk c.args.acceptor.now
      c.tend.new.acceptor c.tend.new.acceptor (g.N.ClientSource.seen c.args.net.now) (g.N.ClientSource.seen c.tend.new.net)
      (g.N.ClientSource.seen c.tend.new.net) c.tend.ensures.goes
      (goes_at_desk c.tend.new.desk c.turn_desk.new.desk c.tend.new.acceptor
      (g.N.ClientSource.seen c.tend.new.net) 2 c.turn_desk.ensures.keeps);
  all = lacks_any c.from_residual-in_err-turn_desk.result _ _ c.from_residual-in_err-turn_desk.ensures.1;
}

pub returns-in_default : goal.returns-in_default
returns-in_default g c = record {
  at_desk = c.turn_desk.ensures.desk;
  at_acceptor = c.tend.ensures.at_acceptor;
  goes = goes_further c.args.desk.now c.tend.new.desk c.turn_desk.new.desk c.args.acceptor.now
      c.tend.new.acceptor c.tend.new.acceptor (g.N.ClientSource.seen c.args.net.now) (g.N.ClientSource.seen c.tend.new.net)
      (g.N.ClientSource.seen c.tend.new.net) c.tend.ensures.goes
      (goes_at_desk c.tend.new.desk c.turn_desk.new.desk c.tend.new.acceptor
      (g.N.ClientSource.seen c.tend.new.net) 2 c.turn_desk.ensures.keeps);
  all = λ had. c.in_ok-came.ensures.all had;
}

pub returns-in_err-step_all : goal.returns-in_err-step_all
returns-in_err-step_all g c = record {
  at_desk = record {
    seat = c.step_all.ensures.seat.0;
    pass = c.turn_desk.ensures.desk.pass;
    wheel = c.turn_desk.ensures.desk.wheel;
  };
  at_acceptor = c.step_all.ensures.acceptor;
  goes = goes_further c.args.desk.now c.turn_desk.new.desk
      (record c.turn_desk.new.desk { seat = c.step_all.new.seat }) c.args.acceptor.now c.tend.new.acceptor
      c.step_all.new.acceptor (g.N.ClientSource.seen c.args.net.now) (g.N.ClientSource.seen c.tend.new.net)
      (g.N.ClientSource.seen c.step_all.new.net)
      (goes_further c.args.desk.now c.tend.new.desk c.turn_desk.new.desk c.args.acceptor.now
      c.tend.new.acceptor c.tend.new.acceptor (g.N.ClientSource.seen c.args.net.now) (g.N.ClientSource.seen c.tend.new.net)
      (g.N.ClientSource.seen c.tend.new.net) c.tend.ensures.goes
      (goes_at_desk c.tend.new.desk c.turn_desk.new.desk c.tend.new.acceptor
      (g.N.ClientSource.seen c.tend.new.net) 2 c.turn_desk.ensures.keeps))
      (goes_at_acceptor c.turn_desk.new.desk (record c.turn_desk.new.desk { seat = c.step_all.new.seat })
      c.tend.new.acceptor c.step_all.new.acceptor (g.N.ClientSource.seen c.tend.new.net)
      (g.N.ClientSource.seen c.step_all.new.net) refl c.step_all.ensures.seat.1 c.step_all.ensures.keeps);
  all = lacks_any c.from_residual-in_err-step_all.result _ _ c.from_residual-in_err-step_all.ensures.1;
}

pub returns : goal.returns
returns g c = record {
  at_desk = record {
    seat = c.step_all.ensures.seat.0;
    pass = c.turn_desk.ensures.desk.pass;
    wheel = c.turn_desk.ensures.desk.wheel;
  };
  at_acceptor = c.step_all.ensures.acceptor;
  goes = goes_further c.args.desk.now c.turn_desk.new.desk
      (record c.turn_desk.new.desk { seat = c.step_all.new.seat }) c.args.acceptor.now c.tend.new.acceptor
      c.step_all.new.acceptor (g.N.ClientSource.seen c.args.net.now) (g.N.ClientSource.seen c.tend.new.net)
      (g.N.ClientSource.seen c.step_all.new.net)
      (goes_further c.args.desk.now c.tend.new.desk c.turn_desk.new.desk c.args.acceptor.now
      c.tend.new.acceptor c.tend.new.acceptor (g.N.ClientSource.seen c.args.net.now) (g.N.ClientSource.seen c.tend.new.net)
      (g.N.ClientSource.seen c.tend.new.net) c.tend.ensures.goes
      (goes_at_desk c.tend.new.desk c.turn_desk.new.desk c.tend.new.acceptor
      (g.N.ClientSource.seen c.tend.new.net) 2 c.turn_desk.ensures.keeps))
      (goes_at_acceptor c.turn_desk.new.desk (record c.turn_desk.new.desk { seat = c.step_all.new.seat })
      c.tend.new.acceptor c.step_all.new.acceptor (g.N.ClientSource.seen c.tend.new.net)
      (g.N.ClientSource.seen c.step_all.new.net) refl c.step_all.ensures.seat.1 c.step_all.ensures.keeps);
  all = λ had. c.in_ok-step_all.ensures.all (c.in_ok-came.ensures.all had);
}
