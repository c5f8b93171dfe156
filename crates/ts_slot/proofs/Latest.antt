-- The last finished turn that is known.
use Rattle.std.proofs.Common.{◌≡◌, ℕ, ◌<◌, ◌≤◌, cond, eqb, leb, List, [], ◌∷◌, ◌++◌, refl, sym, ap, ◌∙◌, arith}
use Rattle.std.specs.Prelude.{Option, Some, None}
use Rattle.std.proofs.lemmas.Bool.{leb-true, leb-false, eq-eqb, cond-true}
use Rattle.ts_slot.specs.Lists.{Each}
use Rattle.ts_slot.specs.Views.{newer, latest}
use Rattle.ts_lists.proofs.Cases.{split, by_eq}

at_most : {A : Type 0} (a b : ℕ) (x y : A) → a ≤ b → cond (leb a b) x y ≡ x
at_most a b x y le = split (leb a b) (λ t. cond t x y ≡ x) (λ _. refl)
    (λ e. let f = leb-false a b e in absurd (omega arith))

above : {A : Type 0} (a b : ℕ) (x y : A) → b < a → cond (leb a b) x y ≡ y
above a b x y less = split (leb a b) (λ t. cond t x y ≡ y)
    (λ e. let f = leb-true a b e in absurd (omega arith)) (λ _. refl)

module _ {T : Type 0} where
  newer_none : (a : Option (ℕ × T)) → newer a None ≡ a
  newer_none None = refl
  newer_none (Some a) = refl

  newer_assoc : (a b c : Option (ℕ × T)) → newer (newer a b) c ≡ newer a (newer b c)
  newer_assoc None b c = refl
  newer_assoc (Some a) None c = refl
  newer_assoc (Some a) (Some b) None = newer_none (newer (Some a) (Some b))
  newer_assoc (Some a) (Some b) (Some c) =
      split (leb b.0 a.0) (λ t. newer (cond t (Some a) (Some b)) (Some c) ≡ newer (Some a)
      (cond (leb c.0 b.0) (Some b) (Some c)))
      (λ ba. split (leb c.0 b.0) (λ t. newer (Some a) (Some c) ≡ newer (Some a) (cond t (Some b) (Some c)))
      (λ cb.
      let p = leb-true b.0 a.0 ba in let q = leb-true c.0 b.0 cb in
      at_most c.0 a.0 (Some a) (Some c) (omega arith) ∙ sym (at_most b.0 a.0 (Some a) (Some b) p))
      (λ _. refl))
      (λ ba. split (leb c.0 b.0) (λ t. cond t (Some b) (Some c) ≡ newer (Some a) (cond t (Some b) (Some c)))
      (λ cb. let p = leb-false b.0 a.0 ba in sym (above b.0 a.0 (Some a) (Some b) p))
      (λ cb. let p = leb-false b.0 a.0 ba in let q = leb-false c.0 b.0 cb in sym
      (above c.0 a.0 (Some a) (Some c) (omega arith))))

  pub latest_append : (k : ℕ) (xs ys : List (ℕ × ℕ × T))
      → latest k (xs ++ ys) ≡ newer (latest k xs) (latest k ys)
  latest_append k [] ys = refl
  latest_append k (e ∷ xs) ys =
      ap (λ r. newer (cond (eqb e.0 k) (Some (e.1, e.2)) None) r) (latest_append k xs ys)
      ∙ sym (newer_assoc (cond (eqb e.0 k) (Some (e.1, e.2)) None) (latest k xs) (latest k ys))

  -- a later turn is the last one
  latest_below : (k t : ℕ) (c : T) (es : List (ℕ × ℕ × T)) → Each (λ e. e.0 ≡ k → e.1 < t) es
      → newer (Some (t, c)) (latest k es) ≡ Some (t, c)
  latest_below k t c [] below = refl
  latest_below k t c (e ∷ es) below =
      by_eq e.0 k (λ b. newer (Some (t, c)) (newer (cond b (Some (e.1, e.2)) None) (latest k es)) ≡ Some
      (t, c))
      (λ is.
      let less = below.0 is in
      sym (newer_assoc (Some (t, c)) (Some (e.1, e.2)) (latest k es))
      ∙ ap (λ r. newer r (latest k es)) (at_most e.1 t (Some (t, c)) (Some (e.1, e.2)) (omega arith)) ∙
      latest_below k t c es below.1)
      (λ _. latest_below k t c es below.1)

  pub latest_here : (k t : ℕ) (c : T) (es : List (ℕ × ℕ × T)) → Each (λ e. e.0 ≡ k → e.1 < t) es
      → latest k ((k, t, c) ∷ es) ≡ Some (t, c)
  latest_here k t c es below = ap (λ r. newer r (latest k es))
      (cond-true (eqb k k) (Some (t, c)) None (eq-eqb k k refl)) ∙ latest_below k t c es below
