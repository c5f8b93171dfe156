-- The net was not asked for a client, and the place is one of the server.
use Rattle.std.proofs.Common.{refl}
use Rattle.ts_serve.proofs.Accounts.{account_moves}
use Rattle.ts_serve.proofs.steps.step_next.Goals as goal

pub returns-clause-keeps : goal.returns-clause-keeps
returns-clause-keeps g c = record {
  account = account_moves c.args.acceptor.now _ (g.N.ClientSource.seen c.args.net.now)
      (g.N.ClientSource.seen c.step_at.new.net) refl refl refl c.step_at.ensures.net.net;
  serving = λ telling terms are. c.step_at.ensures.serving telling terms
      (are c.args.acceptor.now.next c.requires.acceptor.next);
}
