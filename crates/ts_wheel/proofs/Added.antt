-- Lists of tokens in the order in which they come due, made of parts.
use Rattle.std.proofs.Common.{◌≡◌, ℕ, ◌<◌, ◌≤◌, Bool, true, false, cond, ltb, leb, List, [], ◌∷◌, ◌++◌, length, refl, ap, ◌∙◌, Some, None, All, arith}
use Rattle.std.proofs.lemmas.Bool.Decides.{nat_tests}
use Rattle.std.proofs.lemmas.List.Elements.{All-nil, All-cons, All-head, All-tail}
use Rattle.ts_wheel.specs.Due.{added, first_due, after_due, next_moment}
use Rattle.ts_wheel.specs.Rows.{all_at}

pub ltb-yes : (a b : ℕ) → a < b → ltb a b ≡ true
ltb-yes a b h = grind (arith, nat_tests)

pub ltb-no : (a b : ℕ) → b ≤ a → ltb a b ≡ false
ltb-no a b h = grind (arith, nat_tests)

pub leb-yes : (a b : ℕ) → a ≤ b → leb a b ≡ true
leb-yes a b h = grind (arith, nat_tests)

pub leb-no : (a b : ℕ) → b < a → leb a b ≡ false
leb-no a b h = grind (arith, nat_tests)

module _ {T : Type 0} where
  pub added-front : (due : ℕ) (t : T) (e : ℕ × T) (es : List (ℕ × T)) → due < e.0
      → added due t (e ∷ es) ≡ (due, t) ∷ e ∷ es
  added-front due t e es h = ap (λ (b : Bool). cond b ((due, t) ∷ e ∷ es) (e ∷ added due t es))
      (ltb-yes due e.0 h)

  pub added-later : (due : ℕ) (t : T) (e : ℕ × T) (es : List (ℕ × T)) → e.0 ≤ due
      → added due t (e ∷ es) ≡ e ∷ added due t es
  added-later due t e es h = ap (λ (b : Bool). cond b ((due, t) ∷ e ∷ es) (e ∷ added due t es))
      (ltb-no due e.0 h)

  -- a token goes behind all that are due no later
  pub added-behind : (due : ℕ) (t : T) (xs ys : List (ℕ × T)) → All (λ e. e.0 ≤ due) xs
      → added due t (xs ++ ys) ≡ xs ++ added due t ys
  added-behind due t [] ys all = refl
  added-behind due t (x ∷ xs) ys all =
      added-later due t x (xs ++ ys) (All-head (λ (e : ℕ × T). e.0 ≤ due) x xs all)
      ∙ ap (λ zs. x ∷ zs) (added-behind due t xs ys (All-tail (λ (e : ℕ × T). e.0 ≤ due) x xs all))

  -- a token goes before all that are due later
  pub added-before : (due : ℕ) (t : T) (xs ys : List (ℕ × T)) → All (λ e. due < e.0) ys
      → added due t (xs ++ ys) ≡ added due t xs ++ ys
  added-before due t [] [] all = refl
  added-before due t [] (y ∷ ys) all = added-front due t y ys (All-head (λ (e : ℕ × T). due < e.0) y ys all)
  added-before due t (x ∷ xs) ys all =
      elim (ltb due x.0) as (λ b. cond b ((due, t) ∷ x ∷ (xs ++ ys)) (x ∷ added due t (xs ++ ys)) ≡ cond b
      ((due, t) ∷ x ∷ xs) (x ∷ added due t xs) ++ ys) [
        | true ↦ refl
        | false ↦ ap (λ zs. x ∷ zs) (added-before due t xs ys all)
      ]

  pub All-added : (P : ℕ × T → Type 0) (due : ℕ) (t : T) (xs : List (ℕ × T)) → P (due, t) → All P xs
      → All P (added due t xs)
  All-added P due t [] p all = All-cons P (due, t) [] p all
  All-added P due t (x ∷ xs) p all =
      elim (ltb due x.0) as (λ b. All P (cond b ((due, t) ∷ x ∷ xs) (x ∷ added due t xs))) [
        | true ↦ All-cons P (due, t) (x ∷ xs) p all
        | false ↦ All-cons P x (added due t xs) (All-head P x xs all)
            (All-added P due t xs p (All-tail P x xs all))
      ]

  pub All-after_due : (P : ℕ × T → Type 0) (now : ℕ) (xs : List (ℕ × T)) → All P xs → All P (after_due now xs)
  All-after_due P now [] all = all
  All-after_due P now (x ∷ xs) all =
      elim (leb x.0 now) as (λ b. All P (cond b xs (x ∷ xs))) [ true ↦ All-tail P x xs all | false ↦ all ]

  -- the first token of two parts is that of the first part, if it has one
  pub first_due-append : (now : ℕ) (xs ys : List (ℕ × T)) → 0 < length xs
      → first_due now (xs ++ ys) ≡ first_due now xs
  first_due-append now [] ys h = absurd (omega arith)
  first_due-append now (x ∷ xs) ys h = refl

  pub after_due-append : (now : ℕ) (xs ys : List (ℕ × T)) → 0 < length xs
      → after_due now (xs ++ ys) ≡ after_due now xs ++ ys
  after_due-append now [] ys h = absurd (omega arith)
  after_due-append now (x ∷ xs) ys h =
      elim (leb x.0 now) as (λ b. cond b (xs ++ ys) (x ∷ (xs ++ ys)) ≡ cond b xs (x ∷ xs) ++ ys)
      [ true ↦ refl | false ↦ refl ]

  pub first_moment-append : (xs ys : List (ℕ × T)) → 0 < length xs → next_moment (xs ++ ys) ≡ next_moment xs
  first_moment-append [] ys h = absurd (omega arith)
  first_moment-append (x ∷ xs) ys h = refl

  -- where the first token is not due, none is taken
  pub none_due : (now : ℕ) (xs : List (ℕ × T)) → first_due now xs ≡ None → after_due now xs ≡ xs
  none_due now [] h = refl
  none_due now (x ∷ xs) h =
      elim (leb x.0 now) as (λ b. cond b (Some x.1) None ≡ None → cond b xs (x ∷ xs) ≡ x ∷ xs)
      [ true ↦ λ e. cc | false ↦ λ e. refl ] h

  pub first_due-late : (now : ℕ) (e : ℕ × T) (es : List (ℕ × T)) → now < e.0 → first_due now (e ∷ es) ≡ None
  first_due-late now e es h = ap (λ (b : Bool). cond b (Some e.1) None) (leb-no e.0 now h)

  pub first_due-now : (now : ℕ) (e : ℕ × T) (es : List (ℕ × T)) → e.0 ≤ now
      → first_due now (e ∷ es) ≡ Some e.1
  first_due-now now e es h = ap (λ (b : Bool). cond b (Some e.1) None) (leb-yes e.0 now h)

  pub after_due-late : (now : ℕ) (e : ℕ × T) (es : List (ℕ × T)) → now < e.0 → after_due now (e ∷ es) ≡ e ∷ es
  after_due-late now e es h = ap (λ (b : Bool). cond b es (e ∷ es)) (leb-no e.0 now h)

  pub after_due-now : (now : ℕ) (e : ℕ × T) (es : List (ℕ × T)) → e.0 ≤ now → after_due now (e ∷ es) ≡ es
  after_due-now now e es h = ap (λ (b : Bool). cond b es (e ∷ es)) (leb-yes e.0 now h)

  -- the tokens of one moment
  pub All-all_at : (P : ℕ × T → Type 0) (due : ℕ) (ts : List T) → ((t : T) → P (due, t))
      → All P (all_at due ts)
  All-all_at P due [] h = All-nil P
  All-all_at P due (t ∷ ts) h = All-cons P (due, t) (all_at due ts) (h t) (All-all_at P due ts h)

  pub added-all_at : (due : ℕ) (t : T) (ts : List T) → added due t (all_at due ts) ≡ all_at due (ts ++ t ∷ [])
  added-all_at due t [] = refl
  added-all_at due t (u ∷ ts) = added-later due t (due, u) (all_at due ts) (omega arith) ∙ ap
      (λ zs. (due, u) ∷ zs) (added-all_at due t ts)
