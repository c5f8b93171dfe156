-- A client that waited goes, or goes on behind its transaction.
use Rattle.std.proofs.Common.{refl}
use Rattle.ts_serve.proofs.LeftInSession.{waiting_answered, waiting_done, waiting_goes_on, waiting_spent}
use Rattle.ts_serve.proofs.LeftInSession.{waiting_there}
use Rattle.ts_serve.proofs.sessions.leave_waiting.Goals as goal

pub returns-then-not-goes_on-clause-becomes : goal.returns-then-not-goes_on-clause-becomes
returns-then-not-goes_on-clause-becomes g c = λ terms stands has.
    let left = c.retire_waiting in (
      waiting_done g.C.Link g.O.Link g.P.Transform terms c.args.wait stands left.result left.ensures.client
          left.ensures.left terms.behind.value refl,
      waiting_spent g.C.Link g.O.Link g.P.Transform terms c.args.wait stands left.result left.ensures.client
          left.ensures.left (waiting_answered g.C.Link g.O.Link g.P.Transform terms c.args.wait stands
          c.goes_on.result c.goes_on.ensures c.if-not-goes_on.true has) terms.behind.value refl,
    )

pub returns-clause-becomes : goal.returns-clause-becomes
returns-clause-becomes g c = λ terms stands has.
    let left = c.into_left-span in
    waiting_goes_on g.C.Link g.O.Link g.P.Transform terms c.args.wait stands left.result.left left.result.span
    c.note_of.result left.ensures.left left.ensures.span c.note_of.ensures
    (waiting_there g.C.Link g.O.Link g.P.Transform terms c.args.wait stands c.goes_on.result c.goes_on.ensures
    c.if-not-goes_on.false)
