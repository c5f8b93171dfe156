-- The round was gone, the net was asked, and some handlers were roused.
use Rattle.std.proofs.Common.{ap, length, ◌∙◌}
use Rattle.ts_serve.proofs.Accounts.{lacks_any}
use Rattle.ts_serve.proofs.Asked.{serves_roused}
use Rattle.ts_serve.proofs.rounds.go_round.Goals as goal

pub rouse_ready-requires-clause-places : goal.rouse_ready-requires-clause-places
rouse_ready-requires-clause-places g c =
    let server = c.requires.server.server in (
      λ k low. (server.0, server.2 k low),
      ap length c.deref-2.ensures.value ∙ c.take_round.ensures.at_acceptor.row,
    )

pub returns-in_err-is_idle : goal.returns-in_err-is_idle
returns-in_err-is_idle g c = record {
  at_desk = c.take_round.ensures.at_desk;
  at_acceptor = c.take_round.ensures.at_acceptor;
  goes = c.take_round.ensures.goes;
  all = lacks_any c.from_residual.result _ _ c.from_residual.ensures.1;
}

pub returns : goal.returns
returns g c =
    serves_roused c.args.service.now.shared.slots.now
    c.args.service.now.shared.queue.now c.args.desk.now c.take_round.new.desk c.rouse_ready.new.desk
    c.args.acceptor.now c.take_round.new.acceptor (g.N.ClientSource.seen c.args.net.now)
    (g.N.ClientSource.seen c.take_round.new.net) (g.N.ClientSource.seen c.ask_ready.new.net)
    c.rouse_ready.result
    c.take_round.ensures.at_acceptor c.take_round.ensures.goes c.in_ok-is_idle.ensures.all c.ask_ready.ensures
    c.rouse_ready.ensures.desk c.rouse_ready.ensures.keeps
