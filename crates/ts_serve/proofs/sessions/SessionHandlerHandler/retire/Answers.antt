-- What is left of a client as it stands, by which of the two lived in its place.
use Rattle.std.proofs.Common.{◌∙◌, refl, sym}
use Rattle.ts_serve.proofs.LeftInSession.{stood_exchange, stood_waiting, waiting_done}
use Rattle.ts_serve.proofs.sessions.SessionHandlerHandler.retire.Goals as goal

pub returns-in-One-clause-done : goal.returns-in-One-clause-done
returns-in-One-clause-done g c = λ terms here.
    c.retire_exchange.ensures.done terms (stood_exchange g.C.Link g.O.Link g.P.Transform terms c.args.self
    c.in-One.exchange c.args.journal (sym c.self.view_is ∙ c.in-One.is) here)

pub returns-in-Other-clause-done : goal.returns-in-Other-clause-done
returns-in-Other-clause-done g c = λ terms here.
    let left = c.retire_waiting in
    waiting_done g.C.Link g.O.Link g.P.Transform terms c.in-Other.wait
    (stood_waiting g.C.Link g.O.Link g.P.Transform terms c.args.self c.in-Other.wait c.args.journal
    (sym c.self.view_is ∙ c.in-Other.is) here) left.result left.ensures.client left.ensures.left terms.behind.value refl
