-- The read is one of the origin, and all that was open is settled.
use Rattle.std.proofs.Common.{refl, arith}
use Rattle.ts_intercept.specs.Seen.{lines_in}
use Rattle.ts_intercept.proofs.Bounds.{both_some, early_sound}
use Rattle.ts_intercept.proofs.Calls.{early_shows}
use Rattle.ts_intercept.proofs.reading.read_early.Goals as goal

pub returns-clause-reads : goal.returns-clause-reads
returns-clause-reads g c =
    early_shows g.O.Link.tells g.O.Link.look c.args.choice.now c.requires.sound c.read_origin.new.origin
    c.counted-choice.result c.read_origin.result c.read_origin.new.into c.requires.stage
    c.counted-choice.ensures
    c.read_origin.ensures.reads

pub returns-clause-goes : goal.returns-clause-goes
returns-clause-goes g c = record {
  origin = c.read_origin.ensures.goes;
  handed = refl;
  setup = refl;
  sent = refl;
  held = omega arith;
  gone = omega arith;
}

pub returns-clause-sound : goal.returns-clause-sound
returns-clause-sound g c =
    let old = c.args.choice.now in
    early_sound g.O.Link.tells g.O.Link.look (lines_in old) old.handed.value old.stage old.origin
    c.read_origin.new.origin old.held.items old.sent old.gone old.early c.requires.stage c.requires.sound
    (both_some g.O.Link.goes old.origin c.read_origin.new.origin c.read_origin.ensures.goes)
