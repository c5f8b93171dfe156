-- A transaction that was made between the client of a span and an origin may stand in the places of its
-- setting.
use Rattle.std.proofs.Common.{false, subst, sym}
use Rattle.ts_layers.specs.Layers.{MayBeLayered}
use Rattle.ts_layers.specs.Sessions.{span_link, spanned_link, spanned_origin}
use Rattle.ts_serve.proofs.InSession.{fresh_ends, lives_made, made_whose}
use Rattle.ts_serve.proofs.sessions.make_exchange.Goals as goal

pub make_layered-requires-clause-ends : goal.make_layered-requires-clause-ends
make_layered-requires-clause-ends g c =
    subst (λ o. MayBeLayered (span_link g.C.Link) (spanned_link g.O.Link) spanned_origin c.args.span o)
    (sym c.spanned.ensures) (fresh_ends g.C.Link g.O.Link g.O.Upstream c.args.number c.args.span c.args.origin
    c.requires.span c.requires.origin)

pub returns-clause-whose : goal.returns-clause-whose
returns-clause-whose g c =
    let made = c.in_ok-exchange.ensures in
    made_whose g.C.Link g.O.Link g.P.Transform c.args.setting.now c.args.number c.args.span c.args.origin
    c.spanned.result (record { is_sure = false; is_first = false }) c.place-place.result c.in_ok-exchange._tag
    c.in_ok-exchange.exchange c.spanned.ensures c.place-place.ensures made.tag made.fits made.origin

pub returns-clause-lives : goal.returns-clause-lives
returns-clause-lives g c = λ terms has behind.
    let made = c.in_ok-exchange.ensures in
    lives_made g.C.Link g.O.Link g.P.Transform c.args.setting.now c.args.number c.args.span c.spanned.result
    (record { is_sure = false; is_first = false }) c.place-place.result terms c.in_ok-exchange._tag
    c.in_ok-exchange.exchange c.place-place.ensures c.requires.span has behind made.tag made.fits made.sound
