-- A transaction that was made may stand in the places of its setting.
use Rattle.std.proofs.Common.{◌≡◌, false, true, sym}
use Rattle.ts_exchange.specs.Ends.{ends_of}
use Rattle.ts_serve.proofs.Ending.{lives_made, made_number, new_ends, same_whose}
use Rattle.ts_serve.proofs.exchanges.PlacedExchangeHandler.make.Goals as goal

pub make_layered-requires-clause-ends : goal.make_layered-requires-clause-ends
make_layered-requires-clause-ends g c = new_ends g.C.Link g.O.Link g.O.Upstream c.args.number c.args.client
    c.args.origin c.requires.arrival

pub make_layered-requires-clause-sure : goal.make_layered-requires-clause-sure
make_layered-requires-clause-sure g c = λ is. absurd (let wrong : false ≡ true = is in cc)

pub returns-clause-whose : goal.returns-clause-whose
returns-clause-whose g c =
    let number = made_number (ends_of c.args.setting.now c.args.number c.args.client c.args.origin)
    (record { is_sure = false; is_first = false }) c.in_ok-exchange._tag c.in_ok-exchange.exchange.core.number
    c.in_ok-exchange.ensures.tag c.in_ok-exchange.ensures.fits.number in
    same_whose number c.in_ok-exchange.ensures.origin

pub returns-clause-lives : goal.returns-clause-lives
returns-clause-lives g c = λ terms are.
    let made = c.in_ok-exchange.ensures in
    lives_made g.C.Link g.O.Link g.O.Upstream g.P.Transform
    (ends_of c.args.setting.now c.args.number c.args.client c.args.origin)
    (record { is_sure = false; is_first = false }) terms c.in_ok-exchange._tag c.in_ok-exchange.exchange
    made.tag (record {
      setup_is = sym are.setup;
      plugins_are = sym are.plugins_at;
      named = c.requires.arrival.named;
    }) made.fits made.sound 1

pub returns-clause-first : goal.returns-clause-first
returns-clause-first g c = λ terms are.
    let made = c.in_ok-exchange.ensures in
    lives_made g.C.Link g.O.Link g.O.Upstream g.P.Transform
    (ends_of c.args.setting.now c.args.number c.args.client c.args.origin)
    (record { is_sure = false; is_first = false }) terms c.in_ok-exchange._tag c.in_ok-exchange.exchange
    made.tag (record {
      setup_is = sym are.setup;
      plugins_are = sym are.plugins_at;
      named = c.requires.arrival.named;
    }) made.fits made.sound 1
