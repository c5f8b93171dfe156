-- The rule by which a connection goes on, by what holds of every span.
use Rattle.std.proofs.Common.{sym, ◌∙◌}
use Rattle.ts_session.proofs.Ends.{may_continue}
use Rattle.ts_session.proofs.span.Span.may_continue.Goals as goal

pub returns-clause-rule : goal.returns-clause-rule
returns-clause-rule g c =
    rw (← c.self.view_is) (λ tell so. may_continue g.C.Link.look g.C.Link.tells c.self.inside.course
    c.self.invariant tell (sym c.is_dropped.ensures ∙ so))
