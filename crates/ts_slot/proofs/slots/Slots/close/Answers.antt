-- The seat has the whole share, so every value is at home.
use Rattle.std.proofs.Common.{◌≡◌, map, length, subst, arith}
use Rattle.std.proofs.lemmas.List.{length-map}
use Rattle.std.specs.Prelude.{Some}
use Rattle.std.specs.Mem.Slots.{slots_items, slots_counts}
use Rattle.ts_slot.proofs.slots.Slots.close.Goals as goal
use Rattle.atomic_table.proofs.Lists.{at_map}
use Rattle.ts_slot.proofs.Ends.{ends, value_at, one_value}
use Rattle.ts_lists.proofs.Places.{place_below}
use Rattle.ts_slot.specs.Words.{IsLast}
use Rattle.ts_slot.specs.Boxed.{in_box, fits_in_box, unboxed}

pub unload-requires-clause-each : goal.unload-requires-clause-each
unload-requires-clause-each g c k low =
    let w = c.args.self.sized.1 in
    let n = c.args.self.named in
    let l = c.close_with-closed.ensures.counts.1 in
    let e = ends (fits_in_box g.V.Slotted.fits) (in_box g.V.Slotted.stamp)
    (in_box g.V.Slotted.trace) g.V.Slotted.follows
    g.V.Slotted.follows_on c.args.self.table.shared.key.0.value.items
    c.args.seat.place.id c.args.seat.place.me.0 (slots_items c.close_with-closed.result.words)
    (slots_items c.close_with-closed.result.slots) c.requires.share c.requires.idle
    c.close_with-closed.ensures.values.2 k (omega arith) in
    (e.value, e.there)

pub returns-clause-values : goal.returns-clause-values
returns-clause-values g c k x there =
    let slots = slots_items c.close_with-closed.result.slots in
    let values = map unboxed slots in
    let stood = value_at c.unload.result.items values k x c.unload.ensures there in
    let low = place_below values k (Some x) stood in
    let each : length values ≡ length slots = length-map slots unboxed in
    let w = c.args.self.sized.1 in
    let n = c.args.self.named in
    let l = c.close_with-closed.ensures.counts.1 in
    let count = (slots_counts c.close_with-closed.result.slots).0 in
    let e = ends (fits_in_box g.V.Slotted.fits) (in_box g.V.Slotted.stamp) (in_box g.V.Slotted.trace)
    g.V.Slotted.follows g.V.Slotted.follows_on c.args.self.table.shared.key.0.value.items
    c.args.seat.place.id c.args.seat.place.me.0 (slots_items c.close_with-closed.result.words) slots
    c.requires.share c.requires.idle
    c.close_with-closed.ensures.values.2 k (omega arith) in
    let is = one_value values k e.value.value x
    (at_map unboxed slots k (Some e.value) e.there) stood in
    subst (IsLast {d = g.V.Slotted} c.args.self c.args.seat k) is
    (record { fit = e.fit; stamped = e.stamped; later = e.later })
