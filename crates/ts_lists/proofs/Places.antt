-- Places of a list: what stands at a place, and that it stands below the length.
use Rattle.std.proofs.Common.{◌≡◌, ℕ, zero, suc, ◌+◌, ◌<◌, List, [], ◌∷◌, ◌++◌, length, Some, take, get_or}
use Rattle.std.proofs.Common.{ap, sym, ◌∙◌, subst, arith}
use Rattle.std.proofs.lemmas.List.{take_more, append_assoc}
use mathlib.Core.Option.{some, some-ne-none, some-injective}
use Rattle.std.specs.List.{Contains, slice_get}
use lib.ListN.{get_elem?}

module _ {A : Type 0} where
  -- a place with an element is below the length
  pub place_below : (xs : List A) (k : ℕ) (x : A) → get_elem? xs k ≡ some x → k < length xs
  place_below [] k x at = absurd (some-ne-none x (sym at))
  place_below (y ∷ ys) zero x at = omega arith
  place_below (y ∷ ys) (suc k) x at = let below = place_below ys k x at in omega arith

  -- one element stands at a place
  pub place_once : (xs : List A) (k : ℕ) (x y : A) → get_elem? xs k ≡ some x → get_elem? xs k ≡ some y → x ≡ y
  place_once xs k x y at also = some-injective x y (sym at ∙ also)

  -- what is read at a place, whatever the default
  pub place_read : (xs : List A) (k : ℕ) (x d : A) → get_elem? xs k ≡ some x → get_or xs k d ≡ x
  place_read [] k x d at = absurd (some-ne-none x (sym at))
  place_read (y ∷ ys) zero x d at = some-injective y x at
  place_read (y ∷ ys) (suc k) x d at = place_read ys k x d at

  -- one element more than the first k is what stands at k
  pub take_place : (xs : List A) (k : ℕ) (x : A) → get_elem? xs k ≡ some x
      → take (k + 1) xs ≡ take k xs ++ x ∷ []
  take_place xs k x at =
      subst (λ y. take (k + 1) xs ≡ take k xs ++ y ∷ []) (place_read xs k x x at)
      (take_more xs k x (place_below xs k x at))

  -- one element more, with a list behind
  pub take_more_before : (xs : List A) (k : ℕ) (d : A) (behind : List A) → k < length xs
      → take (k + 1) xs ++ behind ≡ take k xs ++ (get_or xs k d ∷ behind)
  take_more_before xs k d behind below =
      ap (λ zs. zs ++ behind) (take_more xs k d below) ∙ append_assoc (take k xs) (get_or xs k d ∷ []) behind

  -- what stands at a place is an element of the list
  pub place_contained : (xs : List A) (k : ℕ) (x : A) → get_elem? xs k ≡ some x → Contains xs x
  place_contained xs k x at = (k, place_below xs k x at, place_read xs k x x at)

  -- a place as std's slices read it, and back
  pub place_got : (xs : List A) (k : ℕ) (x : A) → get_elem? xs k ≡ some x → slice_get xs k ≡ Some x
  place_got [] k x at = absurd (some-ne-none x (sym at))
  place_got (y ∷ ys) zero x at = ap Some (some-injective y x at)
  place_got (y ∷ ys) (suc k) x at = place_got ys k x at

  pub got_place : (xs : List A) (k : ℕ) (x : A) → slice_get xs k ≡ Some x → get_elem? xs k ≡ some x
  got_place [] k x got = absurd (cc)
  got_place (y ∷ ys) zero x got = let same : y ≡ x = cc in ap some same
  got_place (y ∷ ys) (suc k) x got = got_place ys k x got
