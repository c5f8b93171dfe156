-- Round after round, the desk, the acceptor and the account go on, and no client is lost.
use Rattle.ts_serve.proofs.Accounts.{goes_nowhere, goes_further, lacks_any}
use Rattle.ts_serve.proofs.rounds.serve_rounds.Goals as goal

pub rounds-init : goal.rounds-init
rounds-init g c = (
  c.requires.here.0,
  c.requires.here.1,
  goes_nowhere c.args.desk.now c.args.acceptor.now (g.N.ClientSource.seen c.args.net.now),
  λ all. all,
)

pub returns-then-load-clause-serves : goal.returns-then-load-clause-serves
returns-then-load-clause-serves g c = record {
  at_desk = c.rounds.invariant.0;
  at_acceptor = c.rounds.invariant.1;
  goes = c.rounds.invariant.2;
  all = tt;
}

pub returns-then-is_over-clause-serves : goal.returns-then-is_over-clause-serves
returns-then-is_over-clause-serves g c = record {
  at_desk = c.rounds.invariant.0;
  at_acceptor = c.rounds.invariant.1;
  goes = c.rounds.invariant.2;
  all = c.rounds.invariant.3;
}

pub returns-in_err-go_round-clause-serves : goal.returns-in_err-go_round-clause-serves
returns-in_err-go_round-clause-serves g c = record {
  at_desk = c.go_round.ensures.at_desk;
  at_acceptor = c.go_round.ensures.at_acceptor;
  goes = goes_further c.args.desk.now c.rounds.desk c.go_round.new.desk
      c.args.acceptor.now c.rounds.acceptor c.go_round.new.acceptor
      (g.N.ClientSource.seen c.args.net.now) (g.N.ClientSource.seen c.rounds.net)
      (g.N.ClientSource.seen c.go_round.new.net) c.rounds.invariant.2 c.go_round.ensures.goes;
  all = lacks_any c.from_residual.result _ _ c.from_residual.ensures.1;
}

pub rounds-preserved : goal.rounds-preserved
rounds-preserved g c = (
  c.go_round.ensures.at_desk,
  c.go_round.ensures.at_acceptor,
  goes_further c.args.desk.now c.rounds.desk c.go_round.new.desk
      c.args.acceptor.now c.rounds.acceptor c.go_round.new.acceptor
      (g.N.ClientSource.seen c.args.net.now) (g.N.ClientSource.seen c.rounds.net)
      (g.N.ClientSource.seen c.go_round.new.net) c.rounds.invariant.2 c.go_round.ensures.goes,
  λ all. c.in_ok-go_round.ensures.all (c.rounds.invariant.3 all),
)
