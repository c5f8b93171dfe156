use Rattle.ts_lists.proofs.Results.{by_error}
use Rattle.ts_thread.specs.Goings.{Drives, row}
use Rattle.ts_thread.proofs.Rows.{driving_begins, driving_ends, driving_row, driving_goes_on, driving_stops, fits_on}
use Rattle.ts_thread.proofs.end.drive.Goals as goal

pub events-init : goal.events-init
events-init g c = driving_begins g.W.Slotted.fits g.W.World.sound g.W.World.only_asked g.W.World.is_first
    g.W.World.left c.args.limit c.args.before.now c.args.group.now c.args.after.now c.requires.tells

pub turn_alone-requires-clause-fits : goal.turn_alone-requires-clause-fits
turn_alone-requires-clause-fits g c =
    let fits = c.requires.fits in
    let was = c.events.invariant in
    let goes = driving_row g.W.Slotted.fits g.W.World.sound g.W.World.only_asked g.W.World.is_first
    g.W.World.left c.args.limit c.args.before.now c.events.before c.args.group.now c.events.group
    c.args.after.now c.events.after was in (
      fits.0,
      fits.1,
      fits_on g.W.Slotted.fits g.W.World.sound g.W.World.only_asked g.W.World.is_first
          g.W.World.left c.args.limit _ fits.0 (row c.args.before.now c.args.group.now c.args.after.now)
          (row c.events.before c.events.group c.events.after) was.turns fits.2 goes,
    )

pub events-preserved : goal.events-preserved
events-preserved g c =
    let step = c.in_ok-turn_alone.ensures in
    (driving_goes_on g.W.Slotted.fits g.W.World.sound g.W.World.only_asked g.W.World.is_first g.W.World.left
    c.args.limit c.args.before.now c.events.before c.turn_alone.new.before c.args.group.now c.events.group
    c.turn_alone.new.group c.args.after.now c.events.after c.turn_alone.new.after c.events.invariant
    step.before step.own step.after step.falls).0

pub returns : goal.returns
returns g c = driving_ends g.W.Slotted.fits g.W.World.sound g.W.World.only_asked g.W.World.is_first
    g.W.World.left c.args.limit c.args.before.now c.events.before c.args.group.now c.events.group
    c.args.after.now c.events.after c.events.invariant (c.next_due.ensures.none c.in_default.is)

pub returns-in_err-turn_alone : goal.returns-in_err-turn_alone
returns-in_err-turn_alone g c =
    let step = c.in_err-turn_alone.ensures in
    by_error (Drives g.W.Slotted.fits g.W.World.sound g.W.World.only_asked g.W.World.is_first g.W.World.left
    c.args.limit c.args.before.now c.turn_alone.new.before c.args.group.now c.turn_alone.new.group
    c.args.after.now c.turn_alone.new.after) c.from_residual.result _ c.from_residual.ensures.1
    (driving_stops g.W.Slotted.fits g.W.World.sound g.W.World.only_asked g.W.World.is_first g.W.World.left
    c.args.limit c.args.before.now c.events.before c.turn_alone.new.before c.args.group.now c.events.group
    c.turn_alone.new.group c.args.after.now c.events.after c.turn_alone.new.after _
    c.events.invariant
    step.before
    step.own
    step.after
    step.worn)
