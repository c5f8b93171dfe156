-- Sums over a list of which one or two elements change, and sums beside one another.
use Rattle.std.proofs.Common.{◌≡◌, ◌≢◌, ℕ, zero, suc, ◌+◌, ◌≤◌, List, [], ◌∷◌, set, refl, ap, sym, All, arith}
use Rattle.std.specs.List.{sum_by}
use Rattle.std.proofs.lemmas.List.Sums.{sum_by-cons}
use Rattle.std.proofs.lemmas.List.Elements.{All-head, All-tail}
use mathlib.Core.Option.{some, some-injective, some-ne-none}
use lib.ListN.{get_elem?}

module _ {A : Type 0} where
  -- one element of a sum changes
  pub sum_by-set_at : (f : A → ℕ) (l : List A) (i : ℕ) (a b : A) → get_elem? l i ≡ some a
      → sum_by f (set l i b) + f a ≡ sum_by f l + f b
  sum_by-set_at f [] i a b e = absurd (some-ne-none a (sym e))
  sum_by-set_at f (x ∷ xs) zero a b e =
      let h : f x ≡ f a = ap f (some-injective x a e) in omega (arith, sum_by-cons f b xs, sum_by-cons f x xs)
  sum_by-set_at f (x ∷ xs) (suc i) a b e =
      omega (arith, sum_by-cons f x xs, sum_by-cons f x (set xs i b), sum_by-set_at f xs i a b e)

  -- no element is more than the sum
  pub le-sum_by_at : (f : A → ℕ) (l : List A) (i : ℕ) (a : A) → get_elem? l i ≡ some a → f a ≤ sum_by f l
  le-sum_by_at f [] i a e = absurd (some-ne-none a (sym e))
  le-sum_by_at f (x ∷ xs) zero a e =
      let h : f x ≡ f a = ap f (some-injective x a e) in omega (arith, sum_by-cons f x xs)
  le-sum_by_at f (x ∷ xs) (suc i) a e = omega (arith, sum_by-cons f x xs, le-sum_by_at f xs i a e)

  -- two elements are together no more than the sum
  pub two_le-sum_by : (f : A → ℕ) (l : List A) (i j : ℕ) (a b : A) → i ≢ j → get_elem? l i ≡ some a
      → get_elem? l j ≡ some b → f a + f b ≤ sum_by f l
  two_le-sum_by f [] i j a b n e d = absurd (some-ne-none a (sym e))
  two_le-sum_by f (x ∷ xs) zero zero a b n e d = absurd (n refl)
  two_le-sum_by f (x ∷ xs) zero (suc j) a b n e d =
      let h : f x ≡ f a = ap f (some-injective x a e) in
      omega (arith, sum_by-cons f x xs, le-sum_by_at f xs j b d)
  two_le-sum_by f (x ∷ xs) (suc i) zero a b n e d =
      let h : f x ≡ f b = ap f (some-injective x b d) in
      omega (arith, sum_by-cons f x xs, le-sum_by_at f xs i a e)
  two_le-sum_by f (x ∷ xs) (suc i) (suc j) a b n e d =
      omega (arith, sum_by-cons f x xs, two_le-sum_by f xs i j a b (λ h. n (ap suc h)) e d)

  -- where the one sum is 0 and each element that is 0 in it is 0 in the other, so is the other
  pub sum_by-zero_by : (P : A → Type 0) (f g : A → ℕ) → ((a : A) → P a → f a ≡ 0 → g a ≡ 0) → (l : List A)
      → All P l → sum_by f l ≡ 0 → sum_by g l ≡ 0
  sum_by-zero_by P f g h [] all zero_sum = refl
  sum_by-zero_by P f g h (x ∷ xs) all zero_sum =
      let head : f x ≡ 0 = omega (arith, sum_by-cons f x xs) in
      let rest : sum_by f xs ≡ 0 = omega (arith, sum_by-cons f x xs) in
      let one : g x ≡ 0 = h x (All-head P x xs all) head in
      omega (arith, sum_by-cons g x xs, sum_by-zero_by P f g h xs (All-tail P x xs all) rest)

  -- where no element is more, the sum is not
  pub sum_by-le_by : (f g : A → ℕ) → ((a : A) → f a ≤ g a) → (l : List A) → sum_by f l ≤ sum_by g l
  sum_by-le_by f g h [] = omega arith
  sum_by-le_by f g h (x ∷ xs) =
      let one : f x ≤ g x = h x in omega
      (arith, sum_by-cons f x xs, sum_by-cons g x xs, sum_by-le_by f g h xs)
