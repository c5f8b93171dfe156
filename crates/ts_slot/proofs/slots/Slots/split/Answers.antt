-- A seat is split by a load of the first word.
use Rattle.std.proofs.Common.{arith}
use Rattle.ts_slot.proofs.slots.Slots.split.Goals as goal
use Rattle.ts_slot.proofs.Seats.{splits}
use Rattle.ts_slot.specs.Boxed.{in_box, fits_in_box}

pub split_seat-place-requires : goal.split_seat-place-requires
split_seat-place-requires g c = (
  c.requires.seat.0,
  (let f = c.args.self.now.few.0 in let w = c.args.self.now.sized.0 in omega arith),
  splits (fits_in_box g.V.Slotted.fits) (in_box g.V.Slotted.stamp)
      (in_box g.V.Slotted.trace) g.V.Slotted.follows
      c.args.self.now.table.shared.key.0.value.items
      c.args.seat.now.place.id c.args.seat.now.place.me.0 c.requires.share c.requires.free,
)
