-- Two lists side by side: a relation of the elements at each place.
use Rattle.std.proofs.Common.{◌≡◌, ℕ, zero, suc, ◌<◌, List, [], ◌∷◌, length, All, get_or, refl, sym, ◌∙◌}
use Rattle.std.proofs.Common.{subst, arith}
use Rattle.std.specs.List.{AllZip}
use Rattle.std.proofs.lemmas.List.Elements.{All-nil, All-cons, All-head, All-tail}
use mathlib.Core.Option.{some, some-ne-none, some-injective}
use lib.ListN.{get_elem?}

module _ {A B : Type 0} (R : A → B → Type 0) where
  -- beside what stands at a place of the first list
  pub zip_at_place : (xs : List A) (ys : List B) (k : ℕ) (x : A) → AllZip R xs ys → get_elem? xs k ≡ some x
      → (y : B) × (get_elem? ys k ≡ some y) × R x y
  zip_at_place [] [] k x zip at = absurd (some-ne-none x (sym at))
  zip_at_place [] (y ∷ ys) k x zip at = absurd zip
  zip_at_place (z ∷ xs) [] k x zip at = absurd zip
  zip_at_place (z ∷ xs) (y ∷ ys) zero x zip at = (y, refl, subst (λ v. R v y) (some-injective z x at) zip.0)
  zip_at_place (z ∷ xs) (y ∷ ys) (suc k) x zip at = zip_at_place xs ys k x zip.1 at

  -- both at a place below the length
  pub zip_at_read : (xs : List A) (ys : List B) (d : B) (k : ℕ) → AllZip R xs ys → k < length xs
      → (x : A) × (get_elem? xs k ≡ some x) × (get_elem? ys k ≡ some (get_or ys k d)) × R x (get_or ys k d)
  zip_at_read [] ys d k zip below = absurd (omega arith)
  zip_at_read (x ∷ xs) [] d k zip below = absurd zip
  zip_at_read (x ∷ xs) (y ∷ ys) d zero zip below = (x, refl, refl, zip.0)
  zip_at_read (x ∷ xs) (y ∷ ys) d (suc k) zip below = zip_at_read xs ys d k zip.1 (omega arith)

  -- lists of one length whose elements at each place are so
  pub zip_from_places : (xs : List A) (ys : List B) → length ys ≡ length xs
      → ((k : ℕ) (x : A) (y : B) → get_elem? xs k ≡ some x → get_elem? ys k ≡ some y → R x y) → AllZip R xs ys
  zip_from_places [] [] long at = tt
  zip_from_places [] (y ∷ ys) long at = absurd (omega arith)
  zip_from_places (x ∷ xs) [] long at = absurd (omega arith)
  zip_from_places (x ∷ xs) (y ∷ ys) long at =
      (at 0 x y refl refl, zip_from_places xs ys (omega arith) (λ k a b is also. at (suc k) a b is also))

  -- the same where for each element of the second list there is one of the first
  pub zip_from_found : (xs : List A) (ys : List B) → length ys ≡ length xs
      → ((k : ℕ) (y : B) → get_elem? ys k ≡ some y → (x : A) × (get_elem? xs k ≡ some x) × R x y)
      → AllZip R xs ys
  zip_from_found xs ys long found = zip_from_places xs ys long
      (λ k x y at also. let here = found k y also in
      subst (λ z. R z y) (some-injective here.0 x (sym here.1 ∙ at)) here.2)

  -- what the first list's fact and the relation give of the second list
  pub zip_across : (P : A → Type 0) (Q : B → Type 0) (xs : List A) (ys : List B)
      → ((x : A) (y : B) → P x → R x y → Q y)
      → All P xs → AllZip R xs ys → All Q ys
  zip_across P Q [] [] over all zip = All-nil Q
  zip_across P Q [] (y ∷ ys) over all zip = absurd zip
  zip_across P Q (x ∷ xs) [] over all zip = absurd zip
  zip_across P Q (x ∷ xs) (y ∷ ys) over all zip =
      All-cons Q y ys (over x y (All-head P x xs all) zip.0)
      (zip_across P Q xs ys over (All-tail P x xs all) zip.1)
