-- The piece is held behind what is held for the origin.
use Rattle.std.proofs.Common.{◌++◌, drop}
use Rattle.ts_intercept.specs.Seen.{lines_in}
use Rattle.ts_intercept.proofs.Bounds.{behind_sound}
use Rattle.ts_intercept.proofs.Calls.{behind_kept, taken_shows}
use Rattle.ts_intercept.proofs.writing.write_behind.Goals as goal

pub returns-in-Ok-clause-writes : goal.returns-in-Ok-clause-writes
returns-in-Ok-clause-writes g c =
    let old = c.args.choice.now in
    let held = c.hold.new.held in
    taken_shows g.O.Link.tells g.O.Link.look old c.requires.sound (drop old.sent held.items ++ old.gone)
    c.counted-choice.result c.args.piece.now c.requires.some
    (behind_kept g.O.Link.tells g.O.Link.look old c.requires.sound held c.args.piece.now c.requires.stage
    c.requires.origin c.in-Ok.ensures.ok) c.counted-choice.ensures

pub returns-in-Ok-clause-sound : goal.returns-in-Ok-clause-sound
returns-in-Ok-clause-sound g c =
    let old = c.args.choice.now in
    behind_sound g.O.Link.tells g.O.Link.look (lines_in old) old.handed.value old.stage old.origin
    old.held.items
    c.hold.new.held.items c.args.piece.now old.sent old.gone old.early c.requires.stage c.requires.origin
    c.requires.sound c.in-Ok.ensures.few c.in-Ok.ensures.ok
