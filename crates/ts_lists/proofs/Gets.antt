-- What a slice's `get` gives of lists that are joined.
use Rattle.std.proofs.Common.{◌≡◌, ℕ, zero, suc, ◌-◌, ◌<◌, ◌≤◌, List, [], ◌∷◌, ◌++◌, length, Some, refl, ap}
use Rattle.std.proofs.Common.{◌∙◌, arith}
use Rattle.std.specs.List.{slice_get}

module _ {A : Type 0} where
  -- in front, behind what stands between, there, and at the first place behind
  pub get_front : (xs ys : List A) (k : ℕ) → k < length xs → slice_get (xs ++ ys) k ≡ slice_get xs k
  get_front [] ys k below = absurd (omega arith)
  get_front (x ∷ xs) ys zero below = refl
  get_front (x ∷ xs) ys (suc k) below = get_front xs ys k (omega arith)

  pub get_back : (xs : List A) (x : A) (ys : List A) (k : ℕ) → length xs ≤ k → (k ≡ length xs → ⊥)
      → slice_get (xs ++ x ∷ ys) k ≡ slice_get ys (k - length xs - 1)
  get_back [] x ys zero past other = absurd (other refl)
  get_back [] x ys (suc k) past other = ap (slice_get ys) (let e : k ≡ suc k - 0 - 1 = omega arith in e)
  get_back (y ∷ xs) x ys zero past other = absurd (omega arith)
  get_back (y ∷ xs) x ys (suc k) past other =
      get_back xs x ys k (omega arith) (λ e. other (omega arith))
      ∙ ap (slice_get ys) (let e : k - length xs - 1 ≡ suc k - suc (length xs) - 1 = omega arith in e)

  pub get_rest : (xs ys : List A) (k : ℕ) → length xs ≡ k → slice_get (xs ++ ys) k ≡ slice_get ys 0
  get_rest [] ys zero long = refl
  get_rest [] ys (suc k) long = absurd (omega arith)
  get_rest (x ∷ xs) ys zero long = absurd (omega arith)
  get_rest (x ∷ xs) ys (suc k) long = get_rest xs ys k (omega arith)

  pub get_middle : (xs : List A) (x : A) (ys : List A) (k : ℕ) → length xs ≡ k
      → slice_get (xs ++ x ∷ ys) k ≡ Some x
  get_middle xs x ys k long = get_rest xs (x ∷ ys) k long
