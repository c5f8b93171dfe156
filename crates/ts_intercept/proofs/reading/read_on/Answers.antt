-- The read is one of the origin.
use Rattle.std.proofs.Common.{refl, arith}
use Rattle.ts_intercept.proofs.Calls.{on_shows, on_sound}
use Rattle.ts_intercept.proofs.reading.read_on.Goals as goal

pub returns-clause-reads : goal.returns-clause-reads
returns-clause-reads g c =
    on_shows g.O.Link.tells g.O.Link.look c.args.choice.now c.requires.sound c.read_origin.new.origin
    c.counted-choice.result c.read_origin.result c.read_origin.new.into c.requires.stage
    c.counted-choice.ensures
    c.read_origin.ensures.reads

pub returns-clause-goes : goal.returns-clause-goes
returns-clause-goes g c = record {
  origin = c.read_origin.ensures.goes;
  handed = refl;
  setup = refl;
  sent = refl;
  held = omega arith;
  gone = omega arith;
}

pub returns-clause-sound : goal.returns-clause-sound
returns-clause-sound g c =
    on_sound g.O.Link.tells g.O.Link.look c.args.choice.now c.requires.sound g.O.Link.goes
    c.read_origin.new.origin c.read_origin.result c.read_origin.new.into c.requires.stage
    c.read_origin.ensures.goes c.read_origin.ensures.reads
