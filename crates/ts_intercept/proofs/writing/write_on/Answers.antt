-- One write of the origin was made, with nothing held before it.
use Rattle.ts_intercept.proofs.Calls.{write_shows, write_sound}
use Rattle.ts_intercept.proofs.writing.write_on.Goals as goal

pub returns-clause-writes : goal.returns-clause-writes
returns-clause-writes g c =
    write_shows g.O.Link.tells g.O.Link.look c.args.choice.now c.requires.sound _ c.write-put.new.self
    c.writes_after-choice.result c.write-put.result c.args.piece.now c.requires.stage c.in-Some.is
    c.requires.nothing.all_sent
    c.writes_after-choice.ensures c.write-put.ensures.writes

pub returns-clause-sound : goal.returns-clause-sound
returns-clause-sound g c =
    write_sound g.O.Link.tells g.O.Link.look c.args.choice.now c.requires.sound _ c.write-put.new.self
    c.write-put.result c.args.piece.now c.requires.stage c.in-Some.is c.requires.nothing.all_sent
    c.write-put.ensures.writes
