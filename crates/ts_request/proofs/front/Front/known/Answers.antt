-- What is known of the client follows from what holds of every front.
use Rattle.ts_request.proofs.FrontLink.{awaits_client, knows_client, strips_shown}
use Rattle.ts_request.proofs.front.Front.known.Goals as goal

pub returns-clause-shows : goal.returns-clause-shows
returns-clause-shows g c =
    rw (← c.self.view_is)
    (knows_client g.C.Link.tells c.self.inside.text (g.C.Link.look c.self.inside.client) c.self.invariant)

pub returns-clause-strips : goal.returns-clause-strips
returns-clause-strips g c =
    rw (← c.self.view_is) (λ tell known. strips_shown c.self.inside.text.stage _ _ _ known
    (knows_client g.C.Link.tells c.self.inside.text
    (g.C.Link.look c.self.inside.client) c.self.invariant tell))

pub returns-clause-awaits : goal.returns-clause-awaits
returns-clause-awaits g c =
    rw (← c.self.view_is)
    (awaits_client g.C.Link.tells c.self.inside.text (g.C.Link.look c.self.inside.client) c.self.invariant)
