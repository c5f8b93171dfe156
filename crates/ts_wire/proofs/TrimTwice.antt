-- What was trimmed stays as it is when it is trimmed again.
use Rattle.std.proofs.Common.{◌≡◌, ℕ, Bool, true, false, List, [], ◌∷◌, ◌++◌, reverse, refl, sym, ap, subst, ◌∙◌}
use Rattle.std.specs.Prelude.{⊤}
use Rattle.std.proofs.lemmas.Bool.{cond-true, cond-false}
use Rattle.std.proofs.lemmas.List.{reverse-append, reverse-reverse}
use Rattle.httparse.specs.Grammar.{is_ows, skip_ows, trim_ows}

-- the text does not begin with a space or a tab
abbrev pub Starts : List ℕ → Type 0
Starts [] = ⊤
Starts (b ∷ bs) = is_ows b ≡ false

skipped_starts : (w : List ℕ) → Starts (skip_ows w)
skipped_starts [] = tt
skipped_starts (b ∷ bs) = by_test (is_ows b) refl (skipped_starts bs)
  where
    by_test : (t : Bool) → is_ows b ≡ t → Starts (skip_ows bs) → Starts (skip_ows (b ∷ bs))
    by_test true blank later = subst Starts (sym (cond-true _ _ _ blank)) later
    by_test false other later = subst Starts (sym (cond-false _ _ _ other)) other

pub starts_skip : (w : List ℕ) → Starts w → skip_ows w ≡ w
starts_skip [] starts = refl
starts_skip (b ∷ bs) starts = cond-false _ _ _ starts

starts_front : (d e : List ℕ) → Starts (d ++ e) → Starts d
starts_front [] e starts = tt
starts_front (b ∷ d) e starts = starts

-- what is skipped is a front
skipped_front : (w : List ℕ) → (e : List ℕ) × (w ≡ e ++ skip_ows w)
skipped_front [] = ([], refl)
skipped_front (b ∷ bs) = by_test (is_ows b) refl (skipped_front bs)
  where
    by_test : (t : Bool) → is_ows b ≡ t → (e : List ℕ) × (bs ≡ e ++ skip_ows bs)
        → (e : List ℕ) × (b ∷ bs ≡ e ++ skip_ows (b ∷ bs))
    by_test true blank later =
        (b ∷ later.0, ap (λ l. b ∷ l) (later.1 ∙ ap (λ l. later.0 ++ l) (sym (cond-true _ _ _ blank))))
    by_test false other later = ([], sym (cond-false _ _ _ other))

pub trim_twice : (v : List ℕ) → trim_ows (trim_ows v) ≡ trim_ows v
unfolding trim_ows
trim_twice v =
    let a = skip_ows v in
    let c = skip_ows (reverse a) in
    let front = skipped_front (reverse a) in
    let whole : a ≡ reverse c ++ reverse front.0 =
    sym (reverse-reverse a) ∙ ap reverse front.1 ∙ reverse-append front.0 c in
    let starts : Starts (reverse c) =
    starts_front (reverse c) (reverse front.0) (subst Starts whole (skipped_starts v)) in
    ap (λ l. reverse (skip_ows (reverse l))) (starts_skip (reverse c) starts)
    ∙ ap (λ l. reverse (skip_ows l)) (reverse-reverse c)
    ∙ ap reverse (starts_skip c (skipped_starts (reverse a)))

-- a space before a value is no part of it
pub trim_space : (v : List ℕ) → trim_ows (32 ∷ v) ≡ trim_ows v
unfolding trim_ows
trim_space v = refl

-- where neither end is a space or a tab, nothing is trimmed
pub trim_none : (v : List ℕ) → Starts v → Starts (reverse v) → trim_ows v ≡ v
unfolding trim_ows
trim_none v front back = rw (starts_skip v front, starts_skip (reverse v) back, reverse-reverse)
