-- The rule holds at the start.
use Rattle.std.proofs.Common.{rules, ◌≡◌, ◌<◌, length, map, sym, ap, ◌∙◌, subst, arith}
use Rattle.std.specs.Prelude.{Some, box_value}
use Rattle.std.proofs.lemmas.List.{length-map}
use Rattle.std.proofs.lemmas.Slice.Zip.{AllZip-long}
use Rattle.ts_slot.proofs.slots.Slots.make.Goals as goal
use Rattle.ts_slot.proofs.Boxes.{zip_of_values, each_of_values, firsts_of_values}
use Rattle.ts_slot.proofs.Ends.{opens_with}
use Rattle.ts_slot.specs.Boxed.{in_box, fits_in_box}
use Rattle.ts_slot.specs.Views.{opener}

pub new-requires : goal.new-requires
new-requires g c =
    let values = c.args.values.items in
    let boxes = c.in_ok-boxes.boxes.items in
    let are : map box_value boxes ≡ values = c.in_ok-boxes.ensures in
    let long : length boxes ≡ length values = sym (length-map boxes box_value) ∙ ap length are in
    let n : c.len-groups.result ≡ length values = search rules in
    opens_with (fits_in_box g.V.Slotted.fits) (in_box g.V.Slotted.stamp) (in_box g.V.Slotted.trace)
    g.V.Slotted.follows c.args.tags.items c.of.result.value.items boxes c.of-2.result.value.items
    c.as_slice.result.now c.in_ok-places.places.items c.len-groups.result
    (ap (λ v. v.items) c.of.ensures) (ap (λ v. v.items) c.of-2.ensures)
    (c.as_slice.ensures.value ∙ c.in_ok-words.ensures.items_if_clones_equal (λ y e. e)) c.in_ok-places.ensures
    (n ∙ sym long) (subst (λ m. 0 < m) (sym long) c.requires.count.0)
    (zip_of_values g.V.Slotted.fits c.args.tags.items boxes values are c.requires.fits)
    (each_of_values (λ x. g.V.Slotted.stamp x ≡ 0) boxes values are c.requires.stamps)
    g.V.Slotted.follows_itself

pub returns-clause-view : goal.returns-clause-view
returns-clause-view g c =
    let tags : c.of.result.value.items ≡ c.args.tags.items = ap (λ v. v.items) c.of.ensures in
    let known = firsts_of_values g.V.Slotted.trace c.in_ok-boxes.boxes.items c.of-2.result.value.items
    c.args.values.items (ap (λ v. v.items) c.of-2.ensures) c.in_ok-boxes.ensures in
    ap (λ m. m.0) c.in-Ok.ensures.ok.4 ∙ (λ i. opener (tags i) (known i))

pub invariant_of-slots : goal.invariant_of-slots
invariant_of-slots g c =
    let made = c.in-Ok.ensures.ok in
    let n : c.len-groups.result ≡ length c.args.values.items = search rules in
    let boxes = c.in_ok-boxes.boxes.items in
    let long : length boxes ≡ length c.args.values.items = sym (length-map boxes box_value) ∙ ap length
    c.in_ok-boxes.ensures in
    let places : length c.in_ok-places.places.items ≡ length c.args.values.items = ap length
    c.in_ok-places.ensures ∙ length-map boxes Some ∙ long in
    let tags : length c.args.values.items ≡ length c.args.tags.items = AllZip-long g.V.Slotted.fits
    c.args.tags.items c.args.values.items c.requires.fits in
    let key : length c.in-Ok.table.shared.key.0.value.items ≡ length c.args.tags.items = ap
    (λ y. length y.0.value.items) made.5 ∙ ap (λ v. length v.items) c.of.ensures in
    record {
      sized = (made.0 ∙ c.as_slice.ensures.len ∙ c.in_ok-words.ensures.len, made.1 ∙ places ∙ sym n);
      named = n ∙ tags ∙ sym key;
      few = let f = c.requires.count in (omega arith, omega arith);
    }
