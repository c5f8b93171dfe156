-- What is left of a transaction that has ended in its place, with its client.
use Rattle.std.proofs.Common.{◌≡◌, ap, false}
use Rattle.ts_exchange.specs.Left.{end_of}
use Rattle.ts_serve.proofs.LeftInSession.{exchange_retires, of_inside, takes_inside}
use Rattle.ts_serve.proofs.sessions.retire_exchange.Goals as goal

pub returns-clause-done : goal.returns-clause-done
returns-clause-done g c = λ terms here.
    let took = c.take_layered_apart-parts in
    let same : c.exchange.inside.exchange ≡ c.args.exchange.value = ap (λ e. e.value) c.exchange.view_is in
    let take = takes_inside g.C.Link g.O.Link g.P.Transform here.keeps.ends c.args.journal.state
    c.exchange.inside.exchange c.args.exchange.value took.result same
    (took.ensures.left here.keeps.ends false false c.args.journal.state) in
    let ended = of_inside end_of c.exchange.inside.exchange c.args.exchange.value took.result.parts.end same
    took.ensures.ended in
    exchange_retires g.C.Link g.O.Link g.P.Transform terms c.args.exchange c.args.journal here took.result
    take ended c.end_session.result c.end_session.ensures.parts c.end_session.ensures.last
