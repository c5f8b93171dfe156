use Rattle.std.proofs.Common.{[]}
use Rattle.ts_wheel.specs.Parts.{IsParted}
use Rattle.ts_wheel.proofs.Parted.{taken_lap}
use Rattle.ts_wheel.proofs.wheel.take_in_lap.Goals as goal
use Rattle.ts_wheel.proofs.wheel.take_in_lap.Goals.{then-is_empty, else-is_empty}

pub returns-clause-parted : goal.returns-clause-parted
returns-clause-parted g c =
    let parted : IsParted [] c.if-is_empty.lap c.if-is_empty.later = elim c.if-is_empty.branch [
      | then-is_empty w ↦ rw (w.lap-is, w.later-is) w.turn.ensures.parted
      | else-is_empty w ↦ rw (w.lap-is, w.later-is, c.is_empty.ensures.same) c.requires
    ] in
    taken_lap c.args.now c.if-is_empty.lap c.take_due.new.self c.if-is_empty.later parted
    c.take_due.ensures.start c.take_due.ensures.rest
