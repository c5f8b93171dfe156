use Rattle.std.specs.Prelude.{vec_capacity}
use Rattle.ts_wire.proofs.PlaceBody.{begins}
use Rattle.ts_wire.proofs.body.BodyReader.restart.Goals as goal

pub returns-clause-fed : goal.returns-clause-fed
returns-clause-fed c =
    let held = c.clear.new.self in
    let first = c.first_phase-self-inside in
    begins c.args.framing first.result held.items (vec_capacity held) c.requires.framing first.ensures.value
    c.clear.ensures.items first.ensures.sound
