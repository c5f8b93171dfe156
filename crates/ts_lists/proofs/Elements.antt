-- A fact of each element of a list, by parts of the list and by its places.
use Rattle.std.proofs.Common.{◌≡◌, ℕ, zero, suc, ◌<◌, List, [], ◌∷◌, ◌++◌, length, All, AllPairs, refl, arith}
use Rattle.std.specs.List.{AllByRecursion}
use Rattle.std.proofs.lemmas.List.Elements.{All-nil, All-cons, All-head, All-tail}
use mathlib.Core.Option.{some}
use lib.ListN.{get_elem?}

module _ {A : Type 0} where
  -- of a front, of a rest, and of what stands between
  pub all_front : (P : A → Type 0) (xs ys : List A) → All P (xs ++ ys) → All P xs
  all_front P [] ys all = All-nil P
  all_front P (x ∷ xs) ys all =
      All-cons P x xs (All-head P x (xs ++ ys) all) (all_front P xs ys (All-tail P x (xs ++ ys) all))

  pub all_rest : (P : A → Type 0) (xs ys : List A) → All P (xs ++ ys) → All P ys
  all_rest P [] ys all = all
  all_rest P (x ∷ xs) ys all = all_rest P xs ys (All-tail P x (xs ++ ys) all)

  pub all_middle : (P : A → Type 0) (xs : List A) (x : A) (ys : List A) → All P (xs ++ x ∷ ys) → P x
  all_middle P xs x ys all = All-head P x ys (all_rest P xs (x ∷ ys) all)

  -- what holds of everything holds of each element
  pub all_of_any : (P : A → Type 0) (xs : List A) → ((x : A) → P x) → All P xs
  all_of_any P [] any = All-nil P
  all_of_any P (x ∷ xs) any = All-cons P x xs (any x) (all_of_any P xs any)

  -- what holds of what stands at each place holds of each element, and the other way round
  pub all_from_places : (P : A → Type 0) (xs : List A) → ((k : ℕ) (x : A) → get_elem? xs k ≡ some x → P x)
      → All P xs
  all_from_places P [] at = All-nil P
  all_from_places P (x ∷ xs) at =
      All-cons P x xs (at 0 x refl) (all_from_places P xs (λ k y is. at (suc k) y is))

  pub all_at_place : (P : A → Type 0) (xs : List A) (k : ℕ) → All P xs → k < length xs → (x : A)
      × (get_elem? xs k ≡ some x) × P x
  all_at_place P [] k all below = absurd (omega arith)
  all_at_place P (x ∷ xs) zero all below = (x, refl, All-head P x xs all)
  all_at_place P (x ∷ xs) (suc k) all below = all_at_place P xs k (All-tail P x xs all) (omega arith)

  -- the same by recursion on the list: one element more, a weaker fact, a front and a rest
  pub each_push : (P : A → Type 0) (xs : List A) (x : A) → AllByRecursion P xs → P x
      → AllByRecursion P (xs ++ x ∷ [])
  each_push P [] x each is = (is, tt)
  each_push P (y ∷ ys) x each is = (each.0, each_push P ys x each.1 is)

  pub each_weaker : (P Q : A → Type 0) (xs : List A) → ((x : A) → P x → Q x) → AllByRecursion P xs
      → AllByRecursion Q xs
  each_weaker P Q [] weaker each = tt
  each_weaker P Q (x ∷ xs) weaker each = (weaker x each.0, each_weaker P Q xs weaker each.1)

  -- of each two elements: the first with the others, and the others
  pub all_pairs_head : (R : A → A → Type 0) (x : A) (xs : List A) → AllPairs R (x ∷ xs) → All (R x) xs
  all_pairs_head R x xs pairs k d below = pairs 0 (suc k) d (omega arith) (omega arith)

  pub all_pairs_tail : (R : A → A → Type 0) (x : A) (xs : List A) → AllPairs R (x ∷ xs) → AllPairs R xs
  all_pairs_tail R x xs pairs i j d before below = pairs (suc i) (suc j) d (omega arith) (omega arith)
