-- The net's answer is one that it counts, or a client.
use Rattle.std.proofs.Common.{refl}
use Rattle.ts_serve.proofs.Accounts.{account_came, account_nobody, account_closed, account_failed}
use Rattle.ts_serve.proofs.accept.receive_at.Goals as goal

pub returns-in-Came-clause-keeps : goal.returns-in-Came-clause-keeps
returns-in-Came-clause-keeps g c = (
  record {
    most = refl;
    account = λ first was. account_came first c.in-Came.client c.in-Came.origin c.args.acceptor.now _
        (g.N.ClientSource.seen c.args.net.now) (g.N.ClientSource.seen c.receive.new.net) refl refl refl c.requires.open.1
        c.in-Came.ensures.receives was;
  },
  c.in-Came.ensures.receives.handed,
  c.receive.ensures.books,
)

pub returns-in-Nobody-clause-keeps : goal.returns-in-Nobody-clause-keeps
returns-in-Nobody-clause-keeps g c = (
  record {
    most = refl;
    account = λ first was. account_nobody first c.args.acceptor.now _
        (g.N.ClientSource.seen c.args.net.now) (g.N.ClientSource.seen c.receive.new.net) refl refl refl
        c.in-Nobody.ensures.receives was;
  },
  c.in-Nobody.ensures.receives.handed,
  c.receive.ensures.books,
)

pub returns-in-Closed-clause-keeps : goal.returns-in-Closed-clause-keeps
returns-in-Closed-clause-keeps g c = (
  record {
    most = refl;
    account = λ first was. account_closed first c.args.acceptor.now _
        (g.N.ClientSource.seen c.args.net.now) (g.N.ClientSource.seen c.receive.new.net) c.requires.open.0 refl refl refl
        c.in-Closed.ensures.receives was;
  },
  c.in-Closed.ensures.receives.handed,
  c.receive.ensures.books,
)

pub returns-in-Failed-clause-keeps : goal.returns-in-Failed-clause-keeps
returns-in-Failed-clause-keeps g c = (
  record {
    most = refl;
    account = λ first was. account_failed first c.args.acceptor.now _
        (g.N.ClientSource.seen c.args.net.now) (g.N.ClientSource.seen c.receive.new.net) c.requires.open.0 refl refl refl
        c.in-Failed.ensures.receives was;
  },
  c.in-Failed.ensures.receives.handed,
  c.receive.ensures.books,
)
