-- What becomes of a client, by which of the two lived in its place.
use Rattle.std.proofs.Common.{◌∙◌, sym}
use Rattle.ts_serve.proofs.LeftInSession.{ends_exchange, ends_waiting}
use Rattle.ts_serve.proofs.sessions.SessionHandlerHandler.leave.Goals as goal

pub returns-in-One-clause-becomes : goal.returns-in-One-clause-becomes
returns-in-One-clause-becomes g c = λ terms here.
    c.leave_exchange.ensures.becomes terms (ends_exchange g.C.Link g.O.Link g.P.Transform terms c.args.self
    c.in-One.exchange c.args.journal (sym c.self.view_is ∙ c.in-One.is) here)

pub returns-in-Other-clause-becomes : goal.returns-in-Other-clause-becomes
returns-in-Other-clause-becomes g c = λ terms here.
    let stands = ends_waiting g.C.Link g.O.Link g.P.Transform terms c.args.self c.in-Other.wait c.args.journal
    (sym c.self.view_is ∙ c.in-Other.is) here in
    c.leave_waiting.ensures.becomes terms stands.0 stands.1
