use Rattle.std.proofs.Common.{◌≤◌, length, arith}
use Rattle.ts_lists.proofs.Results.{by_error}
use Rattle.ts_thread.specs.Goings.{Finishes}
use Rattle.ts_thread.proofs.Rows.{finishing_begins, finishing_fits, finishing_next, finishing_stops, finishing_ends}
use Rattle.ts_thread.proofs.end.finish_all.Goals as goal

pub groups-init : goal.groups-init
groups-init g c = finishing_begins g.W.Slotted.fits g.W.World.sound g.W.World.only_asked g.W.World.is_first
    g.W.World.left c.args.limit c.args.groups.now c.requires.tells

pub drive_at-requires-clause-fits : goal.drive_at-requires-clause-fits
drive_at-requires-clause-fits g c =
    let fits = c.requires.fits in (
      fits.0,
      fits.1,
      finishing_fits g.W.Slotted.fits g.W.World.sound g.W.World.only_asked g.W.World.is_first g.W.World.left
          c.args.limit fits.0 c.args.groups.now c.groups.groups c.groups.place fits.2 c.groups.invariant,
    )

pub groups-preserved : goal.groups-preserved
groups-preserved g c = finishing_next g.W.Slotted.fits g.W.World.sound g.W.World.only_asked g.W.World.is_first
    g.W.World.left c.args.limit c.args.groups.now c.groups.groups c.drive_at.new.groups c.groups.place
    c.groups.invariant c.in_ok-drive_at.ensures

pub returns-in_err-drive_at : goal.returns-in_err-drive_at
returns-in_err-drive_at g c =
    by_error (Finishes g.W.Slotted.fits g.W.World.sound g.W.World.only_asked g.W.World.is_first g.W.World.left
    c.args.limit c.args.groups.now c.drive_at.new.groups) c.from_residual.result _
    c.from_residual.ensures.1
    (finishing_stops g.W.Slotted.fits g.W.World.sound g.W.World.only_asked g.W.World.is_first g.W.World.left
    c.args.limit c.args.groups.now c.groups.groups c.drive_at.new.groups c.groups.place _
    c.groups.invariant c.in_err-drive_at.ensures)

pub returns : goal.returns
returns g c =
    let ends = c.groups-test.false in
    let long = c.groups.auto.groups in
    let le : length c.groups.groups ≤ c.groups.place = omega arith in
    finishing_ends g.W.Slotted.fits g.W.World.sound g.W.World.only_asked g.W.World.is_first g.W.World.left
    c.args.limit c.args.groups.now c.groups.groups c.groups.place le c.groups.invariant
