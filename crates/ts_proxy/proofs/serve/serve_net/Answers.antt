-- What was handed over is that since the net began to listen.
use Rattle.std.proofs.Common.{inr, subst}
use Rattle.ts_config.specs.declared.setup.Setup.{Setup}
use Rattle.ts_serve.specs.Served.{AreRetired}
use Rattle.ts_history.specs.Done.{IsTxnDone}
use Rattle.ts_serve.specs.declared.acceptor.TheConstants.{PLACES}
use Rattle.ts_stock.specs.StockTransform.{stock_transform}
use Rattle.ts_txn.specs.declared.retired.Retired.{Retired}
use Rattle.ts_proxy.proofs.Serving.{retired-since, sessions-since}
use Rattle.ts_proxy.specs.Serving.{HasSessionsUnder}
use Rattle.ts_proxy.proofs.serve.serve_net.Goals as goal

pub returns-in-Ready-clause-retired : goal.returns-in-Ready-clause-retired
returns-in-Ready-clause-retired g c = λ plain tells.
    let Done : Setup → Retired g.row.N-Client.Denot g.row.N-Origin.Denot → Type 0 =
    λ setup. IsTxnDone g.N.Client.Link g.N.Origin.Link g.N.Origin.Upstream stock_transform setup PLACES in
    retired-since (Done c.args.setup) (g.N.Net.seen c.args.net.now) (g.N.Net.seen c.begin.new.self)
    (g.N.Net.seen c.serve_begun.new.net)
    c.in-Ready.ensures.counts.misdials
    (subst (λ s. AreRetired (Done s) (g.N.Net.seen c.begin.new.self) (g.N.Net.seen c.serve_begun.new.net))
    c.in-Ok.ensures.ok
    (c.serve_begun.ensures.retired plain tells))

pub returns-in-Ready-clause-sessions : goal.returns-in-Ready-clause-sessions
returns-in-Ready-clause-sessions g c = λ many tells.
    let old = g.N.Net.seen c.args.net.now in
    let mid = g.N.Net.seen c.begin.new.self in
    let new = g.N.Net.seen c.serve_begun.new.net in
    let had = subst (λ s. HasSessionsUnder g.N.Client.Link g.N.Origin.Link s c.serve_begun.result mid new)
    c.in-Ok.ensures.ok (c.serve_begun.ensures.sessions many tells) in
    inr (record {
      last = retired-since _ old mid new c.in-Ready.ensures.counts.misdials had.last;
      had = sessions-since _ _ old mid new c.in-Ready.ensures.counts.misdials had.had;
      spent = had.spent;
    })
