-- Lengths of lists, and which lists are not empty.
use Rattle.std.proofs.Common.{◌≡◌, ◌≢◌, ℕ, ◌<◌, ◌≤◌, Bool, true, false, cond, List, [], ◌∷◌, ◌++◌, length}
use Rattle.std.proofs.Common.{ap, refl, arith}
use Rattle.std.specs.List.{filter}

module _ {A : Type 0} where
  -- a list that is longer than something is not empty
  pub longer_not_empty : (n : ℕ) (xs : List A) → n < length xs → xs ≢ []
  longer_not_empty n xs longer is = absurd (omega (arith, longer, ap length is))

  -- a list that begins with something is not empty
  pub front_not_empty : (xs ys : List A) → xs ≢ [] → xs ++ ys ≢ []
  front_not_empty [] ys some is = some refl
  front_not_empty (x ∷ xs) ys some is = absurd (let wrong : ◌≡◌ {A = List A} (x ∷ (xs ++ ys)) [] = is in cc)

  -- a list that is not not empty is empty
  pub empty_unless : (xs : List A) → (xs ≢ [] → ⊥) → xs ≡ []
  empty_unless [] never = refl
  empty_unless (x ∷ xs) never =
      absurd (never (λ is. absurd (let wrong : ◌≡◌ {A = List A} (x ∷ xs) [] = is in cc)))

  -- one list or the other
  pub chosen_within : (test : Bool) (xs ys : List A) (n : ℕ) → length xs ≤ n → length ys ≤ n
      → length (cond test xs ys) ≤ n
  chosen_within true xs ys n left right = left
  chosen_within false xs ys n left right = right

  -- a filter keeps no more than there was
  pub filter_within : (p : A → Bool) (xs : List A) → length (filter p xs) ≤ length xs
  filter_within p [] = omega arith
  filter_within p (x ∷ xs) = kept (p x) (filter_within p xs)
    where
      kept : (test : Bool) → length (filter p xs) ≤ length xs
          → length (cond test (x ∷ filter p xs) (filter p xs)) ≤ length (x ∷ xs)
      kept true less = omega arith
      kept false less = omega arith
