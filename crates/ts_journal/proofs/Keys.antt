-- Keys in lists: what a key that is added, put or removed leaves at each index.
use Rattle.std.proofs.Common.{◌≡◌, ℕ, ◌+◌, ◌<◌, cond, eqb, List, [], ◌∷◌, ◌++◌, Some, None, length, refl, sym, ap, ◌∙◌, arith}
use Rattle.std.proofs.lemmas.Bool.{eq-eqb, ne_eqb, cond-true, cond-false}
use Rattle.ts_journal.specs.declared.entry.TheConstants.{MOST_KEYS}
use Rattle.ts_journal.specs.declared.entry.ContKey.{ContKey}
use Rattle.ts_journal.specs.State.{generation_at, without_index, with_key}
use Rattle.ts_journal.specs.Machine.{AreNewest}
use Rattle.ts_journal.proofs.Cases.{split, by_eq}

-- keys with the same index and generation are the same
pub key_by : (a b : ContKey) → a.index ≡ b.index → a.generation ≡ b.generation → a ≡ b
key_by a b i g = ap (λ n. record { index = n; generation = a.generation }) i ∙ ap
    (λ n. record { index = b.index; generation = n }) g

pub generation_more : (i : ℕ) (ks js : List ContKey) (g : ℕ) → generation_at i ks ≡ Some g
    → generation_at i (ks ++ js) ≡ Some g
generation_more i [] js g h = absurd (cc)
generation_more i (k ∷ ks) js g h =
    split (eqb k.index i) (λ t. cond t (Some k.generation) (generation_at i ks) ≡ Some g → cond t
    (Some k.generation) (generation_at i (ks ++ js)) ≡ Some g)
    (λ e q. q) (λ e q. generation_more i ks js g q) h

pub generation_push : (i : ℕ) (ks : List ContKey) (k : ContKey) → generation_at i ks ≡ None
    → generation_at i (ks ++ k ∷ []) ≡ cond (eqb k.index i) (Some k.generation) None
generation_push i [] k h = refl
generation_push i (j ∷ ks) k h =
    split (eqb j.index i) (λ t. cond t (Some j.generation) (generation_at i ks) ≡ None → cond t
    (Some j.generation) (generation_at i (ks ++ k ∷ [])) ≡ cond (eqb k.index i) (Some k.generation) None)
    (λ e q. absurd (cc)) (λ e q. generation_push i ks k q) h

-- a key that is added changes no other index
pub generation_other : (i : ℕ) (ks : List ContKey) (k : ContKey) → (k.index ≡ i → ⊥)
    → generation_at i (ks ++ k ∷ []) ≡ generation_at i ks
generation_other i [] k ne = cond-false (eqb k.index i) (Some k.generation) None (ne_eqb k.index i ne)
generation_other i (j ∷ ks) k ne =
    split (eqb j.index i) (λ t. cond t (Some j.generation) (generation_at i (ks ++ k ∷ [])) ≡ cond t
    (Some j.generation) (generation_at i ks))
    (λ e. refl) (λ e. generation_other i ks k ne)

pub generation_with : (i : ℕ) (key : ContKey) (ks : List ContKey)
    → generation_at i (with_key key ks) ≡ cond (eqb key.index i) (Some key.generation) (generation_at i ks)
generation_with i key [] = refl
generation_with i key (k ∷ ks) =
    by_eq k.index key.index (λ t. generation_at i (cond t (key ∷ ks) (k ∷ with_key key ks)) ≡ cond
    (eqb key.index i) (Some key.generation)
    (cond (eqb k.index i) (Some k.generation) (generation_at i ks)))
    (λ e. by_eq key.index i (λ t. cond t (Some key.generation) (generation_at i ks) ≡ cond t
    (Some key.generation) (cond (eqb k.index i) (Some k.generation) (generation_at i ks)))
    (λ f. refl)
    (λ f. let ne : k.index ≡ i → ⊥ = λ h. f (sym e ∙ h) in sym
    (cond-false (eqb k.index i) (Some k.generation) (generation_at i ks) (ne_eqb k.index i ne))))
    (λ f. by_eq k.index i (λ t. cond t (Some k.generation) (generation_at i (with_key key ks)) ≡ cond
    (eqb key.index i) (Some key.generation) (cond t (Some k.generation) (generation_at i ks)))
    (λ e. let ne : key.index ≡ i → ⊥ = λ h. f (e ∙ sym h) in sym
    (cond-false (eqb key.index i) (Some key.generation) (Some k.generation) (ne_eqb key.index i ne)))
    (λ e. generation_with i key ks))

pub generation_without : (i j : ℕ) (ks : List ContKey) → (j ≡ i → ⊥)
    → generation_at i (without_index j ks) ≡ generation_at i ks
generation_without i j [] ne = refl
generation_without i j (k ∷ ks) ne =
    by_eq k.index j (λ t. generation_at i (cond t ks (k ∷ without_index j ks)) ≡ cond (eqb k.index i)
    (Some k.generation) (generation_at i ks))
    (λ e. let n : k.index ≡ i → ⊥ = λ h. ne (sym e ∙ h) in sym
    (cond-false (eqb k.index i) (Some k.generation) (generation_at i ks) (ne_eqb k.index i n)))
    (λ f. split (eqb k.index i) (λ t. cond t (Some k.generation) (generation_at i (without_index j ks)) ≡ cond
    t (Some k.generation) (generation_at i ks))
    (λ e. refl) (λ e. generation_without i j ks ne))

pub generation_none : (i j : ℕ) (ks : List ContKey) → generation_at i ks ≡ None
    → generation_at i (without_index j ks) ≡ None
generation_none i j [] h = refl
generation_none i j (k ∷ ks) h =
    split (eqb k.index i) (λ t. cond t (Some k.generation) (generation_at i ks) ≡ None → generation_at i
    (cond (eqb k.index j) ks (k ∷ without_index j ks)) ≡ None)
    (λ e q. absurd (cc))
    (λ e q. split (eqb k.index j) (λ t. generation_at i (cond t ks (k ∷ without_index j ks)) ≡ None)
    (λ f. q)
    (λ f. cond-false (eqb k.index i) (Some k.generation) (generation_at i (without_index j ks)) e ∙
    generation_none i j ks q)) h

pub length_without_index : (i : ℕ) (ks : List ContKey) (g : ℕ) → generation_at i ks ≡ Some g
    → length (without_index i ks) + 1 ≡ length ks
length_without_index i [] g h = absurd (cc)
length_without_index i (k ∷ ks) g h =
    split (eqb k.index i) (λ t. cond t (Some k.generation) (generation_at i ks) ≡ Some g → length
    (cond t ks (k ∷ without_index i ks)) + 1 ≡ length (k ∷ ks))
    (λ e q. omega arith) (λ e q. let n = length_without_index i ks g q in omega arith) h

-- an index is named once, so that it is gone when its key is removed
pub generation_gone : (newest : List ContKey) (i : ℕ) (ks : List ContKey) → AreNewest newest ks
    → generation_at i (without_index i ks) ≡ None
generation_gone newest i [] h = refl
generation_gone newest i (k ∷ ks) (a, b, c, d) =
    by_eq k.index i (λ t. generation_at i (cond t ks (k ∷ without_index i ks)) ≡ None)
    (λ e. ap (λ j. generation_at j ks) (sym e) ∙ b)
    (λ f. cond-false (eqb k.index i) (Some k.generation) (generation_at i (without_index i ks))
    (ne_eqb k.index i f) ∙ generation_gone newest i ks d)

pub some_inj : (a b : ℕ) → Some a ≡ Some b → a ≡ b
some_inj a b h = cc

-- a key that is live has its index's newest generation
pub newest_of_live : (newest live : List ContKey) (i g : ℕ) → AreNewest newest live
    → generation_at i live ≡ Some g → generation_at i newest ≡ Some g
newest_of_live newest [] i g h l = absurd (cc)
newest_of_live newest (k ∷ ks) i g (a, b, c, d) l =
    by_eq k.index i (λ t. cond t (Some k.generation) (generation_at i ks) ≡ Some g → generation_at i newest ≡
    Some g)
    (λ e q. ap (λ j. generation_at j newest) (sym e) ∙ a ∙ q)
    (λ f q. newest_of_live newest ks i g d q) l

pub newest_more : (newest live : List ContKey) (k : ContKey) → k.index < MOST_KEYS
    → generation_at k.index live ≡ None → AreNewest newest live
    → AreNewest (with_key k newest) (live ++ k ∷ [])
newest_more newest [] k low h a = (
  generation_with k.index k newest ∙ cond-true (eqb k.index k.index)
      (Some k.generation) (generation_at k.index newest) (eq-eqb k.index k.index refl),
  refl,
  low,
  tt,
)
newest_more newest (j ∷ live) k low h (a, b, c, d) =
    by_eq j.index k.index (λ t. cond t (Some j.generation) (generation_at k.index live) ≡ None → AreNewest
    (with_key k newest) (j ∷ (live ++ k ∷ [])))
    (λ e q. absurd (cc))
    (λ f q.
    let ne : k.index ≡ j.index → ⊥ = λ x. f (sym x) in (
      generation_with j.index k newest ∙ cond-false (eqb k.index j.index) (Some k.generation)
          (generation_at j.index newest) (ne_eqb k.index j.index ne) ∙ a,
      generation_other j.index live k ne ∙ b,
      c,
      newest_more newest live k low q d,
    )) h

pub newest_less : (newest live : List ContKey) (j : ℕ) → AreNewest newest live
    → AreNewest newest (without_index j live)
newest_less newest [] j h = tt
newest_less newest (k ∷ ks) j (a, b, c, d) =
    split (eqb k.index j) (λ t. AreNewest newest (cond t ks (k ∷ without_index j ks)))
    (λ e. d) (λ e. (a, generation_none k.index j ks b, c, newest_less newest ks j d))
