use Rattle.std.specs.Prelude.{vec_capacity}
use Rattle.ts_wire.proofs.PlaceBody.{begins}
use Rattle.ts_wire.proofs.body.BodyReader.make.Goals as goal

pub returns-clause-fed : goal.returns-clause-fed
returns-clause-fed c =
    let held = c.in_ok-held.held in
    let first = c.first_phase-phase in
    begins c.args.framing first.result held.items (vec_capacity held) c.requires first.ensures.value
    c.in_ok-held.ensures.items first.ensures.sound
