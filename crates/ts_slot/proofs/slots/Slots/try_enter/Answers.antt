-- One step on the word of the group, and then the value is taken out.
use Rattle.std.proofs.Common.{◌≡◌, ◌%◌, ap, ◌∙◌, arith}
use Rattle.std.specs.Prelude.{Some}
use Rattle.ts_slot.proofs.slots.Slots.try_enter.Goals as goal
use Rattle.ts_slot.proofs.Steps.{enters, below_is}
use Rattle.ts_slot.specs.Boxed.{in_box, fits_in_box}

pub fetch_or-seen-requires : goal.fetch_or-seen-requires
fetch_or-seen-requires g c = (
  c.requires.seat.0,
  (let a = c.requires.group in let n = c.args.self.now.named in let w = c.args.self.now.sized.0 in omega
      arith),
  enters (fits_in_box g.V.Slotted.fits) (in_box g.V.Slotted.stamp)
      (in_box g.V.Slotted.trace) g.V.Slotted.follows
      c.args.self.now.table.shared.key.0.value.items
      c.args.self.now.table.shared.table_id.slots c.args.seat.now.place.id c.args.k c.args.seat.now.place.me
      c.requires.group c.args.seat.now.alive,
)

pub exchange-taken-requires : goal.exchange-taken-requires
exchange-taken-requires g c =
    let e = c.fetch_or-seen.ensures in
    let odd = c.if-seen-eq1.false in
    let even : c.fetch_or-seen.result % 2 ≡ 0 = omega arith in
    let won = e.2.0 even in (
      e.0 ∙ c.requires.seat.0,
      (
        Some won.0,
        below_is c.fetch_or-seen.new.seat.me.1 c.args.seat.now.place.me.1
            (c.args.k, Some won.0) (ap (λ m. m.1) won.6),
      ),
    )
