-- Handler after handler, the desk goes on, the same clients are in the row, whoever is in the row as started
-- was, and each of the others was tried.
use Rattle.std.proofs.Common.{◌+◌, ◌≤◌, arith}
use Rattle.std.proofs.lemmas.Bool.Decides.{nat_tests}
use Rattle.ts_slot.specs.Words.{tags_of, view}
use Rattle.ts_serve.specs.declared.acceptor.TheConstants.{PLACES}
use Rattle.ts_serve.proofs.Accounts.{row_on}
use Rattle.ts_serve.proofs.Desks.{desk_on, desk_some}
use Rattle.ts_serve.proofs.NowStarted.{rest_on, one_more_started, no_more_started}
use Rattle.ts_serve.proofs.Tried.{all_tried, one_more_tried}
use Rattle.ts_serve.proofs.start.start_handlers.Goals as goal

pub returns-in_err-start_handler-clause-keeps : goal.returns-in_err-start_handler-clause-keeps
returns-in_err-start_handler-clause-keeps g c = desk_on c.args.desk.now c.places.desk c.start_handler.new.desk
    c.places.invariant.1 (desk_some c.places.desk c.start_handler.new.desk 1 c.start_handler.ensures.keeps.desk)

pub returns-in_err-start_handler-clause-row : goal.returns-in_err-start_handler-clause-row
returns-in_err-start_handler-clause-row g c = row_on c.args.row.now.items c.places.row.items
    c.start_handler.new.row.items c.places.invariant.2 c.start_handler.ensures.row

pub returns-in_err-start_handler-clause-started : goal.returns-in_err-start_handler-clause-started
returns-in_err-start_handler-clause-started g c =
    no_more_started g.W.Slotted.fits g.W.Tenant.keeps g.W.World.begun g.W.World.sound g.P.Slotted.fits
    g.P.World.begun g.P.World.sound g.P.World.is_first (tags_of c.args.shared.now.slots.now) (c.places.k + 1) PLACES
    c.args.row.now.items c.start_handler.new.row.items c.start_handler.new.desk
    (rest_on c.places.k c.args.row.now.items c.places.row.items c.start_handler.new.row.items
    c.places.invariant.3 c.start_handler.ensures.others)
    (one_more_started g.W.Slotted.fits g.W.Tenant.keeps g.W.World.begun g.W.World.sound g.P.Slotted.fits
    g.P.World.begun g.P.World.sound g.P.World.is_first (tags_of c.args.shared.now.slots.now) c.places.k 1
    c.args.row.now.items c.places.row.items c.start_handler.new.row.items c.places.desk c.start_handler.new.desk
    c.start_handler.ensures.keeps c.places.invariant.3 c.start_handler.ensures.others c.places.invariant.4
    c.start_handler.ensures.started)

pub places-preserved : goal.places-preserved
places-preserved g c = (
  c.start_handler.ensures.desk,
  desk_on c.args.desk.now c.places.desk c.start_handler.new.desk c.places.invariant.1
      (desk_some c.places.desk c.start_handler.new.desk 1 c.start_handler.ensures.keeps.desk),
  row_on c.args.row.now.items c.places.row.items c.start_handler.new.row.items c.places.invariant.2
      c.start_handler.ensures.row,
  rest_on c.places.k c.args.row.now.items c.places.row.items c.start_handler.new.row.items
      c.places.invariant.3 c.start_handler.ensures.others,
  one_more_started g.W.Slotted.fits g.W.Tenant.keeps g.W.World.begun g.W.World.sound g.P.Slotted.fits
      g.P.World.begun g.P.World.sound g.P.World.is_first (tags_of c.args.shared.now.slots.now) c.places.k 1
      c.args.row.now.items c.places.row.items c.start_handler.new.row.items c.places.desk
      c.start_handler.new.desk c.start_handler.ensures.keeps c.places.invariant.3 c.start_handler.ensures.others
      c.places.invariant.4 c.start_handler.ensures.started,
  one_more_tried c.places.k c.places.row.items c.start_handler.new.row.items (view c.args.desk.now.seat)
      (view c.places.desk.seat) (view c.start_handler.new.desk.seat)
      (let low = c.places-test.true in let long = c.places.invariant.2.places in let whole = c.requires.places.1 in
      omega arith)
      c.start_handler.ensures.row.places c.start_handler.ensures.others c.places.invariant.5
      c.in_ok-start_handler.ensures.tried,
)

pub returns-clause-tried : goal.returns-clause-tried
returns-clause-tried g c =
    let past : PLACES ≤ c.places.k = grind (arith, nat_tests, c.places-test.false) in
    let long = c.places.invariant.2.places in
    let whole = c.requires.places.1 in
    all_tried c.places.k c.places.row.items (view c.args.desk.now.seat) (view c.places.desk.seat) (omega arith)
    c.places.invariant.5

pub returns-clause-started : goal.returns-clause-started
returns-clause-started g c =
    no_more_started g.W.Slotted.fits g.W.Tenant.keeps g.W.World.begun g.W.World.sound g.P.Slotted.fits
    g.P.World.begun g.P.World.sound g.P.World.is_first (tags_of c.args.shared.now.slots.now) c.places.k PLACES
    c.args.row.now.items c.places.row.items c.places.desk c.places.invariant.3 c.places.invariant.4
