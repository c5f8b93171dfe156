-- The first transaction of a client that came may stand in the places of its setting, behind none.
use Rattle.std.proofs.Common.{[]}
use Rattle.ts_serve.proofs.InSession.{behind_first, behind_none, lives_one}
use Rattle.ts_serve.proofs.sessions.SessionHandlerHandler.make.Goals as goal
use Rattle.ts_serve.specs.SessionTerms.{behind_by}

pub returns-clause-lives : goal.returns-clause-lives
returns-clause-lives g c = λ terms are.
    lives_one g.C.Link g.O.Link g.P.Transform terms c.in_ok-exchange.exchange
    (c.in_ok-exchange.ensures.lives terms (record { setup = are.setup; plugins_at = are.plugins_at })
    (behind_none g.C.Link g.O.Link g.P.Transform terms c.args.number c.in_ok-span.span are.behind))

pub returns-clause-first : goal.returns-clause-first
returns-clause-first g c = λ terms are.
    lives_one g.C.Link g.O.Link g.P.Transform (behind_by terms []) c.in_ok-exchange.exchange
    (c.in_ok-exchange.ensures.lives (behind_by terms [])
    (record { setup = are.setup; plugins_at = are.plugins_at })
    (behind_first g.C.Link g.O.Link g.P.Transform terms c.args.number c.args.client c.in_ok-span.span
    c.in_ok-span.ensures (λ tells. (c.requires.arrival.unused tells).no_given)
    (λ tells. (c.requires.arrival.unused tells).no_taken)))
