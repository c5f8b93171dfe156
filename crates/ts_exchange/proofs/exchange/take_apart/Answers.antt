-- What is left of a transaction is told by its parts.
use Rattle.ts_exchange.proofs.Left.{exchanges}
use Rattle.ts_exchange.proofs.exchange.take_apart.Goals as goal

pub returns-clause-apart : goal.returns-clause-apart
returns-clause-apart g c =
    let parts = c.into_parts.ensures in
    record {
      number = parts.end.0;
      client = parts.links.0;
      origin = parts.links.1;
      head = parts.sent.0;
      mode = parts.sent.1;
      cuts = parts.sent.2;
      client_faults = parts.faults.0;
      origin_faults = parts.faults.1;
      end_is = parts.end.1;
    }

pub returns-clause-left : goal.returns-clause-left
returns-clause-left g c = λ ends started s between.
    let parts = c.into_parts.ensures in
    exchanges g.C.Link g.O.Link g.O.Upstream g.P.Transform ends started s c.args.exchange c.into_parts.result
    between (record {
      number = parts.end.0;
      client = parts.links.0;
      origin = parts.links.1;
      head = parts.sent.0;
      mode = parts.sent.1;
      cuts = parts.sent.2;
      client_faults = parts.faults.0;
      origin_faults = parts.faults.1;
      end_is = parts.end.1;
    })
