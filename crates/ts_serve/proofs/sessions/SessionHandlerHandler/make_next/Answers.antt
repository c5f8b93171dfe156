-- The next transaction of a client that goes on may stand there, behind one more.
use Rattle.std.proofs.Common.{[], ◌∷◌, ◌++◌}
use Rattle.ts_serve.proofs.InSession.{behind_next, behind_none, fresh_next, lives_one}
use Rattle.ts_serve.proofs.sessions.SessionHandlerHandler.make_next.Goals as goal
use Rattle.ts_serve.specs.SessionTerms.{behind_by}

pub make_exchange-requires-clause-span : goal.make_exchange-requires-clause-span
make_exchange-requires-clause-span g c = fresh_next g.C.Link g.O.Link g.P.Transform c.requires.next.0
    c.requires.next.1 c.args.next c.requires.next.3

pub returns-clause-lives : goal.returns-clause-lives
returns-clause-lives g c = λ terms noted are on.
    lives_one g.C.Link g.O.Link g.P.Transform terms c.in_ok-exchange.exchange
    (c.in_ok-exchange.ensures.lives terms (record { setup = are.setup; plugins_at = are.plugins_at })
    (behind_none g.C.Link g.O.Link g.P.Transform terms c.args.next.number c.args.next.span are.behind))

pub returns-clause-behind : goal.returns-clause-behind
returns-clause-behind g c = λ terms notes noted are on.
    lives_one g.C.Link g.O.Link g.P.Transform (behind_by terms (notes ++ noted ∷ []))
    c.in_ok-exchange.exchange (c.in_ok-exchange.ensures.lives (behind_by terms (notes ++ noted ∷ []))
    (record { setup = are.setup; plugins_at = are.plugins_at })
    (behind_next g.C.Link g.O.Link g.P.Transform terms notes noted c.args.next on))
