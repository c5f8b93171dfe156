-- The values of the first k slots were taken out.
use Rattle.std.proofs.Common.{◌≡◌, ◌≤◌, ◌<◌, ◌-◌, ℕ, map, take, length}
use Rattle.std.specs.Prelude.{Some, slice_index_or, true, false, vec_capacity}
use Rattle.std.specs.Mem.Slots.{slots_items, slots_filled, slots_len}
use Rattle.ts_slot.specs.Boxed.{unboxed}
use Rattle.ts_slot.proofs.slots.unload.Given as goal

abbrev pub invariant-loop-k : goal.invariant-loop-k
invariant-loop-k g l = record {
  within : l.k ≤ l.count;
  count : l.count ≡ slots_len l.closed.slots;
  items : slots_items l.closed.slots ≡ slots_items l.initial.closed.slots;
  values : map Some l.values.items ≡ take l.k (map unboxed (slots_items l.closed.slots));
  length : length l.values.items ≡ l.k;
  room : slots_len l.closed.slots ≤ vec_capacity l.values;
  left : (j : ℕ) → l.k ≤ j → j < slots_len l.closed.slots
      → slice_index_or (slots_filled l.closed.slots) j false ≡ true;
  gone : (j : ℕ) → j < l.k → slice_index_or (slots_filled l.closed.slots) j false ≡ false;
}

abbrev pub decreases-loop-k : goal.decreases-loop-k
decreases-loop-k g l = l.count - l.k
