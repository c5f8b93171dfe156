-- A piece was dropped.
use Rattle.ts_intercept.specs.Seen.{lines_in}
use Rattle.ts_intercept.proofs.Bounds.{dropped_sound}
use Rattle.ts_intercept.proofs.writing.drop_piece.Goals as goal

pub returns-clause-sound : goal.returns-clause-sound
returns-clause-sound g c =
    let old = c.args.choice.now in
    dropped_sound g.O.Link.tells g.O.Link.look (lines_in old) old.handed.value old.stage old.origin
    old.held.items
    old.sent old.gone c.add.new.self c.args.piece.now old.early c.requires.nobody c.add.ensures
    c.requires.sound
