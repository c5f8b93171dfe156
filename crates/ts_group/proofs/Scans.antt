-- A loop that looks for an event, a key or a role: what it passed is none of the front.
use Rattle.std.proofs.Common.{◌≡◌, ℕ, ◌+◌, ◌<◌, suc, true, false, List, [], ◌∷◌, ◌++◌, Some, length, get_or, drop, take, eqb, sym, ap, ◌∙◌, append_assoc, arith}
use Rattle.std.specs.List.{remove}
use Rattle.std.proofs.lemmas.List.{drop_more, take_more}
use Rattle.std.proofs.lemmas.Bool.{cond-true, cond-false, eq-eqb, ne_eqb}
use Rattle.ts_journal.specs.declared.entry.Pending.{Pending}
use Rattle.ts_journal.specs.declared.entry.ContKey.{ContKey}
use Rattle.ts_journal.specs.State.{first_in_series, numbers_of, same_key}
use Rattle.ts_group.specs.declared.action.Named.{Named}
use Rattle.ts_group.specs.Context.{role_at, without_role}

pub series_past : (s : ℕ) (ps : List Pending) (i : ℕ) (d : Pending) → i < length ps
    → ((get_or ps i d).series ≡ s → ⊥) → first_in_series s (drop (i + 1) ps) ≡ first_in_series s (drop i ps)
series_past s ps i d h ne =
    sym (ap (first_in_series s) (drop_more ps i d h) ∙ cond-false (eqb (get_or ps i d).series s)
    (Some (get_or ps i d).number) (first_in_series s (drop (i + 1) ps)) (ne_eqb _ _ ne))

pub series_here : (s : ℕ) (ps : List Pending) (i : ℕ) (d : Pending) → i < length ps
    → (get_or ps i d).series ≡ s → first_in_series s (drop i ps) ≡ Some (get_or ps i d).number
series_here s ps i d h e =
    ap (first_in_series s) (drop_more ps i d h) ∙ cond-true (eqb (get_or ps i d).series s)
    (Some (get_or ps i d).number) (first_in_series s (drop (i + 1) ps)) (eq-eqb _ _ e)

pub role_past : (n : ℕ) (rs : List Named) (i : ℕ) (d : Named) → i < length rs
    → ((get_or rs i d).key.index ≡ n → ⊥) → role_at n (drop (i + 1) rs) ≡ role_at n (drop i rs)
role_past n rs i d h ne =
    sym (ap (role_at n) (drop_more rs i d h) ∙ cond-false (eqb (get_or rs i d).key.index n)
    (Some (get_or rs i d).role) (role_at n (drop (i + 1) rs)) (ne_eqb _ _ ne))

pub role_here : (n : ℕ) (rs : List Named) (i : ℕ) (d : Named) → i < length rs → (get_or rs i d).key.index ≡ n
    → role_at n (drop i rs) ≡ Some (get_or rs i d).role
role_here n rs i d h e =
    ap (role_at n) (drop_more rs i d h) ∙ cond-true (eqb (get_or rs i d).key.index n)
    (Some (get_or rs i d).role) (role_at n (drop (i + 1) rs)) (eq-eqb _ _ e)

pub without_role_past : (n : ℕ) (rs : List Named) (i : ℕ) (d : Named) → i < length rs
    → ((get_or rs i d).key.index ≡ n → ⊥)
    → take (i + 1) rs ++ without_role n (drop (i + 1) rs) ≡ take i rs ++ without_role n (drop i rs)
without_role_past n rs i d h ne =
    let rest = without_role n (drop (i + 1) rs) in
    let r = get_or rs i d in
    let here : without_role n (drop i rs) ≡ r ∷ rest = ap (without_role n) (drop_more rs i d h) ∙ cond-false
    (eqb r.key.index n) (drop (i + 1) rs) (r ∷ rest) (ne_eqb _ _ ne) in
    ap (λ zs. zs ++ rest) (take_more rs i d h) ∙ append_assoc (take i rs) (r ∷ []) rest ∙ sym
    (ap (λ zs. take i rs ++ zs) here)

pub without_role_here : (n : ℕ) (rs : List Named) (i : ℕ) (d : Named) → i < length rs
    → (get_or rs i d).key.index ≡ n → remove rs i ≡ take i rs ++ without_role n (drop i rs)
without_role_here n rs i d h e =
    let r = get_or rs i d in
    let here : without_role n (drop i rs) ≡ drop (i + 1) rs = ap (without_role n) (drop_more rs i d h) ∙
    cond-true (eqb r.key.index n) (drop (i + 1) rs) (r ∷ without_role n (drop (i + 1) rs)) (eq-eqb _ _ e)
    in
    let j : suc i ≡ i + 1 = omega arith in
    ap (λ k. take i rs ++ drop k rs) j ∙ sym (ap (λ zs. take i rs ++ zs) here)

pub numbers_past : (key : ContKey) (ps : List Pending) (i : ℕ) (d : Pending) → i < length ps
    → same_key (get_or ps i d).key key ≡ false → numbers_of key (drop (i + 1) ps) ≡ numbers_of key (drop i ps)
numbers_past key ps i d h ne =
    let p = get_or ps i d in
    sym (ap (numbers_of key) (drop_more ps i d h) ∙ cond-false (same_key p.key key)
    (p.number ∷ numbers_of key (drop (i + 1) ps)) (numbers_of key (drop (i + 1) ps)) ne)

pub numbers_here : (key : ContKey) (ps : List Pending) (i : ℕ) (d : Pending) → i < length ps
    → same_key (get_or ps i d).key key ≡ true
    → numbers_of key (drop i ps) ≡ (get_or ps i d).number ∷ numbers_of key (drop (i + 1) ps)
numbers_here key ps i d h e =
    let p = get_or ps i d in
    ap (numbers_of key) (drop_more ps i d h) ∙ cond-true (same_key p.key key)
    (p.number ∷ numbers_of key (drop (i + 1) ps)) (numbers_of key (drop (i + 1) ps)) e
