-- Sums, facts on each entry, and entries of one group.
use Rattle.std.proofs.Common.{◌≡◌, ◌≢◌, ℕ, zero, suc, ◌+◌, ◌≤◌, cond, eqb, List, [], ◌∷◌, ◌++◌, length, set, refl, sym, ap, ◌∙◌, subst, inl, inr, arith}
use Rattle.std.proofs.lemmas.Bool.{eq-eqb, ne_eqb, cond-true, cond-false}
use mathlib.Core.Option.{some, some-ne-none, some-injective}
use lib.ListN.{get_elem?}
use Rattle.ts_lists.proofs.Cases.{split, by_eq}
use Rattle.ts_slot.specs.Lists.{total, Each, IsIn, same, traced, without_group}

pub same_one : (a b : ℕ) → a ≡ b → same a b ≡ 1
same_one a b e = cond-true (eqb a b) 1 0 (eq-eqb a b e)

pub same_none : (a b : ℕ) → a ≢ b → same a b ≡ 0
same_none a b ne = cond-false (eqb a b) 1 0 (ne_eqb a b ne)

module _ {A : Type 0} where
  pub total_set : (f : A → ℕ) (xs : List A) (i : ℕ) (v w : A) → get_elem? xs i ≡ some v
      → total f (set xs i w) + f v ≡ total f xs + f w
  total_set f [] i v w e = absurd (some-ne-none v (sym e))
  total_set f (x ∷ xs) zero v w e = let p : f x ≡ f v = ap f (some-injective x v e) in omega arith
  total_set f (x ∷ xs) (suc i) v w e = let r = total_set f xs i v w e in omega arith

  pub total_append : (f : A → ℕ) (xs ys : List A) → total f (xs ++ ys) ≡ total f xs + total f ys
  total_append f [] ys = omega arith
  total_append f (x ∷ xs) ys = let r = total_append f xs ys in omega arith

  pub total_at : (f : A → ℕ) (xs : List A) (i : ℕ) (v : A) → get_elem? xs i ≡ some v → f v ≤ total f xs
  total_at f [] i v e = absurd (some-ne-none v (sym e))
  total_at f (x ∷ xs) zero v e = let p : f x ≡ f v = ap f (some-injective x v e) in omega arith
  total_at f (x ∷ xs) (suc i) v e = let r = total_at f xs i v e in omega arith

  pub total_two : (f : A → ℕ) (xs : List A) (i j : ℕ) (v w : A) → i ≢ j → get_elem? xs i ≡ some v
      → get_elem? xs j ≡ some w → f v + f w ≤ total f xs
  total_two f [] i j v w ne a b = absurd (some-ne-none v (sym a))
  total_two f (x ∷ xs) zero zero v w ne a b = absurd (ne refl)
  total_two f (x ∷ xs) zero (suc j) v w ne a b = let p : f x ≡ f v = ap f (some-injective x v a) in let r =
      total_at f xs j w b in omega arith
  total_two f (x ∷ xs) (suc i) zero v w ne a b = let p : f x ≡ f w = ap f (some-injective x w b) in let r =
      total_at f xs i v a in omega arith
  total_two f (x ∷ xs) (suc i) (suc j) v w ne a b = let r = total_two f xs i j v w (λ e. ne (ap suc e)) a b in
      omega arith

  pub each_map : (P Q : A → Type 0) (es : List A) → ((e : A) → P e → Q e) → Each P es → Each Q es
  each_map P Q [] f h = tt
  each_map P Q (e ∷ es) f h = (f e h.0, each_map P Q es f h.1)

  pub each_both : (P Q R : A → Type 0) (es : List A) → ((e : A) → P e → Q e → R e) → Each P es → Each Q es
      → Each R es
  each_both P Q R [] f h g = tt
  each_both P Q R (e ∷ es) f h g = (f e h.0 g.0, each_both P Q R es f h.1 g.1)

  pub each_in : (P : A → Type 0) (es : List A) (e : A) → IsIn e es → Each P es → P e
  each_in P [] e i h = absurd i
  each_in P (x ∷ es) e i h = elim i [ inl is ↦ subst P is h.0 | inr more ↦ each_in P es e more h.1 ]

  pub each_append : (P : A → Type 0) (xs ys : List A) → Each P xs → Each P ys → Each P (xs ++ ys)
  each_append P [] ys h g = g
  each_append P (x ∷ xs) ys h g = (h.0, each_append P xs ys h.1 g)

module _ {T : Type 0} where
  -- an entry of the list is of another group where none is of this one
  pub each_apart : (P Q : ℕ × ℕ × T → Type 0) (k : ℕ) (es : List (ℕ × ℕ × T)) → traced k es ≡ 0
      → ((e : ℕ × ℕ × T) → e.0 ≢ k → P e → Q e) → Each P es → Each Q es
  each_apart P Q k [] none f h = tt
  each_apart P Q k (e ∷ es) none f h = (
    f e (λ is. let one = same_one e.0 k is in absurd (omega arith)) h.0,
    each_apart P Q k es (omega arith) f h.1,
  )

  pub each_without : (P : ℕ × ℕ × T → Type 0) (k : ℕ) (es : List (ℕ × ℕ × T)) → Each P es
      → Each P (without_group k es)
  each_without P k [] h = tt
  each_without P k (e ∷ es) h = split (eqb e.0 k) (λ t. Each P (cond t es (e ∷ without_group k es)))
      (λ _. h.1) (λ _. (h.0, each_without P k es h.1))

  pub in_traced : (k t : ℕ) (c : T) (es : List (ℕ × ℕ × T)) → IsIn (k, t, c) es → 1 ≤ traced k es
  in_traced k t c [] i = absurd i
  in_traced k t c (e ∷ es) i = elim i [
    | inl is ↦ let one = same_one e.0 k (ap (λ (x : ℕ × ℕ × T). x.0) is) in omega arith
    | inr more ↦ let r = in_traced k t c es more in omega arith
  ]

  pub traced_without : (k : ℕ) (es : List (ℕ × ℕ × T)) → 1 ≤ traced k es
      → traced k (without_group k es) + 1 ≡ traced k es
  traced_without k [] one = absurd (omega arith)
  traced_without k (e ∷ es) one =
      by_eq e.0 k (λ t. 1 ≤ cond t 1 0 + traced k es → traced k (cond t es (e ∷ without_group k es)) + 1 ≡
      cond t 1 0 + traced k es)
      (λ is s. omega arith)
      (λ ne s. let r = traced_without k es (omega arith) in let z = same_none e.0 k ne in omega arith) one

  pub traced_others : (k j : ℕ) (es : List (ℕ × ℕ × T)) → j ≢ k → traced j (without_group k es) ≡ traced j es
  traced_others k j [] ne = refl
  traced_others k j (e ∷ es) ne =
      by_eq e.0 k (λ t. traced j (cond t es (e ∷ without_group k es)) ≡ same e.0 j + traced j es)
      (λ is. let z = same_none e.0 j (λ h. ne (sym h ∙ is)) in omega arith)
      (λ _. let r = traced_others k j es ne in omega arith)

  pub in_without : (k : ℕ) (e : ℕ × ℕ × T) (es : List (ℕ × ℕ × T)) → e.0 ≢ k → IsIn e es
      → IsIn e (without_group k es)
  in_without k e [] ne i = absurd i
  in_without k e (x ∷ es) ne i =
      by_eq x.0 k (λ t. IsIn e (cond t es (x ∷ without_group k es)))
      (λ is. elim i [
        | inl here ↦ absurd (ne (ap (λ (y : ℕ × ℕ × T). y.0) (sym here) ∙ is))
        | inr more ↦ more
      ])
      (λ _. elim i [ inl here ↦ inl here | inr more ↦ inr (in_without k e es ne more) ])

  pub without_top : (k t : ℕ) (c : T) (es : List (ℕ × ℕ × T)) → without_group k ((k, t, c) ∷ es) ≡ es
  without_top k t c es = cond-true (eqb k k) es ((k, t, c) ∷ without_group k es) (eq-eqb k k refl)

  pub length_without : (k t : ℕ) (c : T) (es : List (ℕ × ℕ × T)) → IsIn (k, t, c) es
      → length (without_group k es) + 1 ≡ length es
  length_without k t c [] i = absurd i
  length_without k t c (e ∷ es) i =
      by_eq e.0 k (λ b. length (cond b es (e ∷ without_group k es)) + 1 ≡ suc (length es))
      (λ _. omega arith)
      (λ ne. elim i [
        | inl is ↦ absurd (ne (ap (λ (x : ℕ × ℕ × T). x.0) is))
        | inr more ↦ let r = length_without k t c es more in omega arith
      ])
