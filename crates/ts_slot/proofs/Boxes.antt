-- What is said of values in their order, said of the boxes in which they stand.
use Rattle.std.proofs.Common.{◌≡◌, ℕ, ◌+◌, List, [], ◌∷◌, map, refl, sym, ap, ◌∙◌, subst}
use Rattle.std.specs.Prelude.{box_value}
use Rattle.std.specs.Global.{Box}
use Rattle.std.specs.List.{AllZip}
use Rattle.ts_slot.specs.Boxed.{in_box, fits_in_box}
use Rattle.ts_slot.specs.Lists.{Each}
use Rattle.ts_slot.specs.Views.{firsts}

module _ {X : Type 0} where
  pub firsts_in_boxes : {T : Type 0} (trace : X → T) (k : ℕ) (boxes : List (Box X))
      → firsts (in_box trace) k boxes ≡ firsts trace k (map box_value boxes)
  firsts_in_boxes trace k [] = refl
  firsts_in_boxes trace k (b ∷ bs) =
      ap (λ es. (k, 0, trace b.value) ∷ es) (firsts_in_boxes trace (k + 1) bs)

  zip_in_boxes : {G : Type 0} (fits : G → X → Type 0) (tags : List G) (boxes : List (Box X))
      → AllZip fits tags (map box_value boxes) → AllZip (fits_in_box fits) tags boxes
  zip_in_boxes fits [] [] zip = tt
  zip_in_boxes fits [] (b ∷ bs) zip = absurd zip
  zip_in_boxes fits (t ∷ ts) [] zip = absurd zip
  zip_in_boxes fits (t ∷ ts) (b ∷ bs) zip = (zip.0, zip_in_boxes fits ts bs zip.1)

  each_in_boxes : (P : X → Type 0) (boxes : List (Box X)) → Each P (map box_value boxes)
      → Each (λ b. P b.value) boxes
  each_in_boxes P [] each = tt
  each_in_boxes P (b ∷ bs) each = (each.0, each_in_boxes P bs each.1)

  -- where the boxes have these values
  pub zip_of_values : {G : Type 0} (fits : G → X → Type 0) (tags : List G) (boxes : List (Box X))
      (xs : List X) → map box_value boxes ≡ xs → AllZip fits tags xs → AllZip (fits_in_box fits) tags boxes
  zip_of_values fits tags boxes xs are zip = zip_in_boxes fits tags boxes
      (subst (λ ys. AllZip fits tags ys) (sym are) zip)

  pub each_of_values : (P : X → Type 0) (boxes : List (Box X)) (xs : List X) → map box_value boxes ≡ xs
      → Each P xs → Each (λ b. P b.value) boxes
  each_of_values P boxes xs are each = each_in_boxes P boxes (subst (λ ys. Each P ys) (sym are) each)

  pub firsts_of_values : {T : Type 0} (trace : X → T) (boxes boxes' : List (Box X)) (xs : List X)
      → boxes' ≡ boxes → map box_value boxes ≡ xs → firsts (in_box trace) 0 boxes' ≡ firsts trace 0 xs
  firsts_of_values trace boxes boxes' xs same are = ap (λ bs. firsts (in_box trace) 0 bs) same ∙
      firsts_in_boxes trace 0 boxes ∙ ap (λ ys. firsts trace 0 ys) are
