-- A seat is joined by a load of the first word, and a look at it shows that what it knows is coherent.
use Rattle.std.proofs.Common.{ap, ◌∙◌, arith}
use Rattle.ts_slot.specs.Steps.{emptied}
use Rattle.ts_slot.specs.Views.{latest}
use Rattle.ts_slot.proofs.slots.Slots.join.Goals as goal
use Rattle.ts_slot.proofs.Seats.{joins}
use Rattle.ts_slot.proofs.Steps.{looks}
use Rattle.ts_slot.proofs.Latest.{latest_append}
use Rattle.ts_slot.specs.Boxed.{in_box, fits_in_box}

pub join_seat-requires : goal.join_seat-requires
join_seat-requires g c = (
  c.requires.seats.0.0,
  c.requires.seats.1.0,
  c.args.from.carries ∙ ap (λ l. emptied l) c.requires.idle,
  (let f = c.args.self.now.few.0 in let w = c.args.self.now.sized.0 in omega arith),
  joins (fits_in_box g.V.Slotted.fits) (in_box g.V.Slotted.stamp)
      (in_box g.V.Slotted.trace) g.V.Slotted.follows
      c.args.self.now.table.shared.key.0.value.items
      c.args.into.now.place.id c.args.into.now.place.me.0 c.args.from.place.id c.args.from.place.me.0
      c.args.into.now.alive c.requires.idle,
)

pub load-requires : goal.load-requires
load-requires g c = (
  c.join_seat.ensures.0 ∙ c.requires.seats.0.0,
  (let f = c.args.self.now.few.0 in let w = c.args.self.now.sized.0 in omega arith),
  looks (fits_in_box g.V.Slotted.fits) (in_box g.V.Slotted.stamp)
      (in_box g.V.Slotted.trace) g.V.Slotted.follows
      c.args.self.now.table.shared.key.0.value.items
      c.args.self.now.table.shared.table_id.slots c.join_seat.new.seat.id 0 c.join_seat.new.seat.me,
)

pub returns-clause-latest : goal.returns-clause-latest
returns-clause-latest g c k =
    ap (λ m. latest k m.0.known) (c.load.ensures.2.0 ∙ c.join_seat.ensures.2) ∙ latest_append k
    c.args.from.place.me.0.known c.args.into.now.place.me.0.known
