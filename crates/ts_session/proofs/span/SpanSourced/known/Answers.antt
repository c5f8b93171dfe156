-- By what holds of every span.
use Rattle.ts_session.proofs.Ends.{gives_request}
use Rattle.ts_session.proofs.span.SpanSourced.known.Goals as goal

pub returns : goal.returns
returns g c =
    rw (← c.self.view_is)
    (λ tell. gives_request g.C.Link.look g.C.Link.tells c.self.inside.course c.self.invariant tell)
