-- A fact of some element of a list, by parts of the list.
use Rattle.std.proofs.Common.{zero, suc, List, [], ◌∷◌, ◌++◌, refl, sym, subst, arith}
use Rattle.std.specs.List.{Any}
use Rattle.std.proofs.lemmas.List.Elements.{Contains-append_left, Contains-append_right}

module _ {A : Type 0} (P : A → Type 0) where
  -- of a front, of a rest, of the first, of one between, and of those around it
  pub any_front : (xs ys : List A) → Any P xs → Any P (xs ++ ys)
  any_front xs ys (k, x, low, is, p) =
      let at = Contains-append_left xs ys x (k, low, is) in (at.0, x, at.1, at.2, p)

  pub any_back : (xs ys : List A) → Any P ys → Any P (xs ++ ys)
  any_back xs ys (k, x, low, is, p) =
      let at = Contains-append_right xs ys x (k, low, is) in (at.0, x, at.1, at.2, p)

  pub any_head : (x : A) (xs : List A) → P x → Any P (x ∷ xs)
  any_head x xs p = (0, x, omega arith, refl, p)

  pub any_tail : (x : A) (xs : List A) → Any P xs → Any P (x ∷ xs)
  any_tail x xs some = any_back (x ∷ []) xs some

  pub any_middle : (xs : List A) (x : A) (ys : List A) → P x → Any P (xs ++ x ∷ ys)
  any_middle xs x ys p = any_back xs (x ∷ ys) (any_head x ys p)

  pub any_around : (xs : List A) (x : A) (ys : List A) → Any P (xs ++ ys) → Any P (xs ++ x ∷ ys)
  any_around [] x ys some = any_tail x ys some
  any_around (z ∷ xs) x ys (zero, y, low, is, p) = any_head z (xs ++ x ∷ ys) (subst P (sym is) p)
  any_around (z ∷ xs) x ys (suc k, y, low, is, p) =
      any_tail z (xs ++ x ∷ ys) (any_around xs x ys (k, y, omega arith, is, p))
