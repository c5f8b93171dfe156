-- The connection of a span, by what holds of every one.
use Rattle.ts_session.proofs.Ends.{is_session}
use Rattle.ts_session.proofs.span.Span.into_client.Goals as goal

pub returns-clause-since : goal.returns-clause-since
returns-clause-since g c = rw (← c.self.view_is) c.self.invariant.begun

pub returns-clause-session : goal.returns-clause-session
returns-clause-session g c =
    rw (← c.self.view_is)
    (λ tell. is_session g.C.Link.look g.C.Link.tells c.self.inside.course c.self.invariant tell)
