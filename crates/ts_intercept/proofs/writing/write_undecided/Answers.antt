-- The piece is held, and it may be known who answers.
use Rattle.std.proofs.Common.{◌≡◌, ◌≤◌, List, length, ap, arith, length-append, rules, subst}
use Rattle.ts_config.specs.declared.setup.InterceptLine.{InterceptLine}
use Rattle.ts_intercept.specs.Deciding.{Decides, HasRoom}
use Rattle.ts_intercept.specs.Seen.{lines_in}
use Rattle.ts_intercept.proofs.Bounds.{decided_sound}
use Rattle.ts_intercept.proofs.Calls.{decided_shows}
use Rattle.ts_intercept.proofs.writing.write_undecided.Goals as goal

pub returns-in-Ok-clause-writes : goal.returns-in-Ok-clause-writes
returns-in-Ok-clause-writes g c =
    let old = c.args.choice.now in
    let held = c.hold_and_decide.new.held in
    let stage = c.in-Ok.stage in
    let lines : c.as_slice-lines.result.now ≡ lines_in old = search rules in
    decided_shows g.O.Link.tells g.O.Link.look old c.requires.sound held stage c.counted-choice.result
    c.args.piece.now c.requires.some c.requires.stage c.in-Ok.ensures.ok
    (subst (λ (l : List InterceptLine). Decides l held.items stage) lines c.in-Ok.ensures.decides)
    (subst (λ (l : List InterceptLine). HasRoom l stage) lines c.in-Ok.ensures.room) c.counted-choice.ensures

pub returns-in-Ok-clause-sound : goal.returns-in-Ok-clause-sound
returns-in-Ok-clause-sound g c =
    let old = c.args.choice.now in
    let held = c.hold_and_decide.new.held in
    let stage = c.in-Ok.stage in
    let lines : c.as_slice-lines.result.now ≡ lines_in old = search rules in
    let longer : length old.held.items ≤ length held.items =
    omega (arith, ap length c.in-Ok.ensures.ok, length-append old.held.items c.args.piece.now) in
    decided_sound g.O.Link.tells g.O.Link.look (lines_in old) old.handed.value old.stage stage old.origin
    old.held.items held.items old.sent old.gone old.early c.requires.stage c.requires.sound
    c.in-Ok.ensures.few
    longer (subst (λ (l : List InterceptLine). Decides l held.items stage) lines c.in-Ok.ensures.decides)
