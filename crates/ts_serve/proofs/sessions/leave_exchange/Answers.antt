-- A client goes with its last transaction, or waits behind it.
use Rattle.std.proofs.Common.{◌≡◌, ap, false, is_some}
use Rattle.ts_exchange.specs.Left.{end_of, number_of}
use Rattle.ts_layers.specs.Layers.{holds_origin}
use Rattle.ts_serve.proofs.LeftInSession.{exchange_retires, exchange_spent, exchange_waits, last_whose}
use Rattle.ts_serve.proofs.LeftInSession.{left_whose}
use Rattle.ts_serve.proofs.LeftInSession.{of_inside, takes_inside, waits_whose}
use Rattle.ts_serve.proofs.sessions.leave_exchange.Goals as goal

pub returns-in-Ends-clause-becomes : goal.returns-in-Ends-clause-becomes
returns-in-Ends-clause-becomes g c = λ terms here.
    let took = c.take_layered_apart-parts in
    let same : c.exchange.inside.exchange ≡ c.args.exchange.value = ap (λ e. e.value) c.exchange.view_is in
    let take = takes_inside g.C.Link g.O.Link g.P.Transform here.keeps.ends c.args.journal.state
    c.exchange.inside.exchange c.args.exchange.value took.result same
    (took.ensures.left here.keeps.ends false false c.args.journal.state) in
    let ended = of_inside end_of c.exchange.inside.exchange c.args.exchange.value took.result.parts.end same
    took.ensures.ended in
    let is = c.in-Ends.ensures in (
      exchange_retires g.C.Link g.O.Link g.P.Transform terms c.args.exchange c.args.journal here took.result
          take
          ended c.in-Ends.parts is.1 is.2,
      exchange_spent g.C.Link g.O.Link g.P.Transform terms c.args.exchange c.args.journal here took.result
          take
          ended c.in-Ends.parts is.1 is.2 is.0,
    )

pub returns-in-GoesOn-clause-becomes : goal.returns-in-GoesOn-clause-becomes
returns-in-GoesOn-clause-becomes g c = λ terms here.
    let took = c.take_layered_apart-parts in
    let same : c.exchange.inside.exchange ≡ c.args.exchange.value = ap (λ e. e.value) c.exchange.view_is in
    let take = takes_inside g.C.Link g.O.Link g.P.Transform here.keeps.ends c.args.journal.state
    c.exchange.inside.exchange c.args.exchange.value took.result same
    (took.ensures.left here.keeps.ends false false c.args.journal.state) in
    let ended = of_inside end_of c.exchange.inside.exchange c.args.exchange.value took.result.parts.end same
    took.ensures.ended in
    let is = c.in-GoesOn.ensures in
    exchange_waits g.C.Link g.O.Link g.P.Transform terms c.args.exchange c.args.journal here took.result take
    ended c.in-GoesOn.next c.in-GoesOn.parts c.exchange.inside.place c.make.result is.0 is.1 is.2
    (ap (λ e. e.place) c.exchange.view_is) c.make.ensures
    (λ l. g.met.C.Link.goes_still l l (g.met.C.Link.stays l))

pub returns-in-Ends-clause-whose : goal.returns-in-Ends-clause-whose
returns-in-Ends-clause-whose g c =
    let took = c.take_layered_apart-parts in
    let same : c.exchange.inside.exchange ≡ c.args.exchange.value = ap (λ e. e.value) c.exchange.view_is in
    last_whose took.result.parts c.in-Ends.parts (number_of c.args.exchange.value)
    (holds_origin c.args.exchange.value) c.in-Ends.ensures.1
    (of_inside number_of c.exchange.inside.exchange c.args.exchange.value took.result.parts.number same
    took.ensures.number)
    (of_inside holds_origin c.exchange.inside.exchange c.args.exchange.value
    (is_some took.result.parts.origin) same took.ensures.origin)

pub returns-in-GoesOn-clause-whose : goal.returns-in-GoesOn-clause-whose
returns-in-GoesOn-clause-whose g c =
    let took = c.take_layered_apart-parts in
    let same : c.exchange.inside.exchange ≡ c.args.exchange.value = ap (λ e. e.value) c.exchange.view_is in
    let is = left_whose took.result.parts c.in-GoesOn.parts (number_of c.args.exchange.value)
    (holds_origin c.args.exchange.value) c.in-GoesOn.ensures.1
    (of_inside number_of c.exchange.inside.exchange c.args.exchange.value took.result.parts.number same
    took.ensures.number)
    (of_inside holds_origin c.exchange.inside.exchange c.args.exchange.value
    (is_some took.result.parts.origin) same took.ensures.origin) in
    waits_whose c.make.result (record {
      parts = c.in-GoesOn.parts;
      place = c.exchange.inside.place;
      journal = c.args.journal;
    }) (number_of c.args.exchange.value) c.args.exchange.place (holds_origin c.args.exchange.value)
    c.make.ensures.left_is is.0 (ap (λ e. e.place) c.exchange.view_is) is.1
