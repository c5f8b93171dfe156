-- What of a list is left behind a place, and what was passed before it.
use Rattle.std.proofs.Common.{◌≡◌, ◌∙◌, ℕ, zero, suc, List, [], ◌∷◌, ◌++◌, Some, None, ap, sym, refl, arith}
use Rattle.std.proofs.Common.{drop, length, slice_get, append_assoc, append-nil}
use Rattle.std.proofs.lemmas.List.{length-append}

module _ {A : Type 0} where
  -- behind a place stands its element, and then what is behind the next place
  pub left_at : (xs : List A) (k : ℕ) (x : A) → slice_get xs k ≡ Some x → drop k xs ≡ x ∷ drop (suc k) xs
  left_at [] k x is = absurd (cc)
  left_at (y ∷ ys) zero x is =
      let same : y ≡ x = cc in
      ap (λ z. z ∷ ys) same
  left_at (y ∷ ys) (suc k) x is = left_at ys k x is

  -- nothing is left behind the last
  pub left_past : (xs : List A) (k : ℕ) → slice_get xs k ≡ None → drop k xs ≡ []
  left_past [] zero is = refl
  left_past [] (suc k) is = refl
  left_past (y ∷ ys) zero is = absurd (cc)
  left_past (y ∷ ys) (suc k) is = left_past ys k is

  -- one element more was passed
  pub one_more : (xs passed : List A) (x : A) → xs ≡ passed ++ drop (length passed) xs
      → slice_get xs (length passed) ≡ Some x
      → xs ≡ (passed ++ x ∷ []) ++ drop (length (passed ++ x ∷ [])) xs
  one_more xs passed x is at =
      let more : suc (length passed) ≡ length (passed ++ x ∷ []) =
      omega (arith, length-append passed (x ∷ [])) in
      is ∙ ap (λ ys. passed ++ ys) (left_at xs (length passed) x at)
      ∙ sym (append_assoc passed (x ∷ []) (drop (suc (length passed)) xs))
      ∙ ap (λ n. (passed ++ x ∷ []) ++ drop n xs) more

  -- where none is left, all were passed
  pub all_passed : (xs passed : List A) → xs ≡ passed ++ drop (length passed) xs
      → slice_get xs (length passed) ≡ None → passed ≡ xs
  all_passed xs passed is none =
      sym (is ∙ ap (λ ys. passed ++ ys) (left_past xs (length passed) none) ∙ append-nil passed)
