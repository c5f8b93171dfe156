-- Each slot has a value, which is taken out once.
use Rattle.std.proofs.Common.{◌+◌, ◌∷◌, ◌++◌, [], map, take, set, length, length-append, sym, ap, ◌∙◌, arith}
use Rattle.std.specs.Prelude.{slice_index_or, false}
use Rattle.std.specs.Mem.Slots.{slots_items, slots_filled, slots_counts}
use Rattle.std.proofs.lemmas.List.{get_or-set_same, get_or-set_other}
use mathlib.Core.Logic.{dite}
use native.Mathlib.Decide.{ℕ_discrete}
use lib.ListN.{get_elem?}
use Rattle.std.specs.Prelude.{Some}
use Rattle.atomic_table.proofs.Lists.{at_map}
use Rattle.ts_slot.specs.Boxed.{unboxed}
use Rattle.ts_slot.proofs.Ends.{taken_more, not_empty}
use Rattle.ts_slot.proofs.slots.unload.Goals as goal

pub unreachable-requires : goal.unreachable-requires
unreachable-requires g c =
    let each = c.requires.each c.loop-k.k (omega arith) in
    not_empty (slots_items c.args.closed.slots) c.loop-k.k each.0 c.take.result each.1
    (ap (λ l. get_elem? l c.loop-k.k) (sym c.loop-k.invariant.items) ∙ c.take.ensures.value) c.in_default.is

pub loop-k-preserved : goal.loop-k-preserved
loop-k-preserved g c =
    let was = c.loop-k.invariant in
    let took = c.in-Some.ensures in
    let put = c.push_reserved.ensures in
    let slots = slots_items c.loop-k.closed.slots in
    let k = c.loop-k.k in
    let filled = slots_filled c.loop-k.closed.slots in
    let counts = slots_counts c.loop-k.closed.slots in
    record {
      within = omega arith;
      count = was.count ∙ sym took.others.2;
      items = took.others.0 ∙ was.items;
      values = ap (λ xs. map Some xs) (put.items ∙ ap (λ x. c.loop-k.values.items ++ x ∷ [])
          c.into_inner.ensures) ∙ taken_more c.loop-k.values.items (map unboxed slots) k c.in-Some.boxed.value
          was.values (at_map unboxed slots k (Some c.in-Some.boxed) took.value) ∙ ap
          (λ l. take (k + 1) (map unboxed l)) (sym took.others.0);
      length = ap length put.items ∙ length-append c.loop-k.values.items (c.into_inner.result ∷ []) ∙ ap
          (λ n. n + 1) was.length;
      room = let r = was.room in let s = put.capacity in let o = took.others.2 in omega arith;
      left = λ j after low. ap (λ l. slice_index_or l j false) took.others.1 ∙ get_or-set_other filled k j
          false false (λ e. absurd (omega arith)) ∙ was.left j (omega arith)
          (let o = took.others.2 in omega arith);
      gone = λ j before. ap (λ l. slice_index_or l j false) took.others.1 ∙ dite (ℕ_discrete j k)
          (λ is. ap (λ i. slice_index_or (set filled k false) i false) is ∙ get_or-set_same filled k false
          false (let n = was.count in let d = counts.1 in omega arith))
          (λ ne. get_or-set_other filled k j false false ne ∙ was.gone j (omega arith));
    }
