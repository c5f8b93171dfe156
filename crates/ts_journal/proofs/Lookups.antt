-- What an event that is added or closed leaves of the others, and what is pending of a key.
use Rattle.std.proofs.Common.{◌≡◌, ℕ, ◌+◌, ◌<◌, ◌≤◌, true, false, cond, eqb, List, [], ◌∷◌, ◌++◌, Some, None, length, refl, sym, ap, ◌∙◌, arith}
use Rattle.std.proofs.lemmas.Bool.{eqb-true, eq-eqb, ne_eqb, cond-true, cond-false, and_from, and_parts}
use Rattle.ts_journal.specs.declared.entry.ContKey.{ContKey}
use Rattle.ts_journal.specs.declared.entry.Pending.{Pending}
use Rattle.ts_journal.specs.State.{pending_at, without, same_key, numbers_of, others_of, first_in_series}
use Rattle.ts_journal.specs.Machine.{Rises}
use Rattle.ts_journal.proofs.Cases.{split, by_eq}
use Rattle.ts_journal.proofs.Keys.{key_by}
use Rattle.ts_journal.proofs.Events.{rises_bound}

-- no event has a number outside its bounds
pub pending_below : (n low : ℕ) (ps : List Pending) (high : ℕ) → Rises low ps high → n < low
    → pending_at n ps ≡ None
pending_below n low [] high r h = refl
pending_below n low (p ∷ ps) high (a, b) h =
    let ne : p.number ≡ n → ⊥ = λ e. omega arith in
    cond-false (eqb p.number n) (Some p) (pending_at n ps) (ne_eqb p.number n ne) ∙ pending_below n
    (p.number + 1) ps high b (omega arith)

pub pending_above : (n low : ℕ) (ps : List Pending) (high : ℕ) → Rises low ps high → high ≤ n
    → pending_at n ps ≡ None
pending_above n low [] high r h = refl
pending_above n low (p ∷ ps) high (a, b) h =
    let l = rises_bound (p.number + 1) ps high b in
    let ne : p.number ≡ n → ⊥ = λ e. omega arith in
    cond-false (eqb p.number n) (Some p) (pending_at n ps) (ne_eqb p.number n ne) ∙ pending_above n
    (p.number + 1) ps high b h

-- an event that is added is found, and those that stood stay
pub pending_added : (n : ℕ) (ps : List Pending) (q : Pending) → n ≡ q.number → pending_at n ps ≡ None
    → pending_at n (ps ++ q ∷ []) ≡ Some q
pending_added n [] q e h = cond-true (eqb q.number n) (Some q) None (eq-eqb q.number n (sym e))
pending_added n (p ∷ ps) q e h =
    split (eqb p.number n) (λ t. cond t (Some p) (pending_at n ps) ≡ None → cond t (Some p)
    (pending_at n (ps ++ q ∷ [])) ≡ Some q)
    (λ b x. absurd (cc)) (λ b x. pending_added n ps q e x) h

pub pending_more : (n : ℕ) (ps qs : List Pending) (p : Pending) → pending_at n ps ≡ Some p
    → pending_at n (ps ++ qs) ≡ Some p
pending_more n [] qs p h = absurd (cc)
pending_more n (q ∷ ps) qs p h =
    split (eqb q.number n) (λ t. cond t (Some q) (pending_at n ps) ≡ Some p → cond t (Some q)
    (pending_at n (ps ++ qs)) ≡ Some p)
    (λ e x. x) (λ e x. pending_more n ps qs p x) h

pub pending_other : (n : ℕ) (ps : List Pending) (q : Pending) → (n ≡ q.number → ⊥)
    → pending_at n (ps ++ q ∷ []) ≡ pending_at n ps
pending_other n [] q ne = cond-false (eqb q.number n) (Some q) None (ne_eqb q.number n (λ e. ne (sym e)))
pending_other n (p ∷ ps) q ne =
    split (eqb p.number n) (λ t. cond t (Some p) (pending_at n (ps ++ q ∷ [])) ≡ cond t (Some p)
    (pending_at n ps))
    (λ e. refl) (λ e. pending_other n ps q ne)

-- an event that is closed is not found, and the others stay
pub pending_gone : (n low : ℕ) (ps : List Pending) (high : ℕ) → Rises low ps high
    → pending_at n (without n ps) ≡ None
pending_gone n low [] high r = refl
pending_gone n low (p ∷ ps) high (a, b) =
    by_eq p.number n (λ t. pending_at n (cond t ps (p ∷ without n ps)) ≡ None)
    (λ e. pending_below n (p.number + 1) ps high b (omega arith))
    (λ f. cond-false (eqb p.number n) (Some p) (pending_at n (without n ps)) (ne_eqb p.number n f) ∙
    pending_gone n (p.number + 1) ps high b)

pub pending_without : (n m : ℕ) (ps : List Pending) → (n ≡ m → ⊥)
    → pending_at n (without m ps) ≡ pending_at n ps
pending_without n m [] ne = refl
pending_without n m (p ∷ ps) ne =
    by_eq p.number m (λ t. pending_at n (cond t ps (p ∷ without m ps)) ≡ cond (eqb p.number n) (Some p)
    (pending_at n ps))
    (λ e. let other : p.number ≡ n → ⊥ = λ h. ne (sym h ∙ e) in sym
    (cond-false (eqb p.number n) (Some p) (pending_at n ps) (ne_eqb p.number n other)))
    (λ f. split (eqb p.number n) (λ t. cond t (Some p) (pending_at n (without m ps)) ≡ cond t (Some p)
    (pending_at n ps)) (λ e. refl) (λ e. pending_without n m ps ne))

-- an event that is found has the number
pub number_at : (n : ℕ) (ps : List Pending) (p : Pending) → pending_at n ps ≡ Some p → p.number ≡ n
number_at n [] p h = absurd (cc)
number_at n (q ∷ ps) p h =
    by_eq q.number n (λ t. cond t (Some q) (pending_at n ps) ≡ Some p → p.number ≡ n)
    (λ e x. let same : q ≡ p = cc in ap (λ v. v.number) (sym same) ∙ e) (λ f x. number_at n ps p x) h

-- two keys are the same
pub same_from : (a b : ContKey) → same_key a b ≡ true → a ≡ b
same_from a b h =
    let x = and_parts (eqb a.index b.index) (eqb a.generation b.generation) h in
    key_by a b (eqb-true a.index b.index x.0) (eqb-true a.generation b.generation x.1)

pub same_to : (a b : ContKey) → a ≡ b → same_key a b ≡ true
same_to a b e = and_from (eqb a.index b.index) (eqb a.generation b.generation)
    (eq-eqb _ _ (ap (λ k. k.index) e)) (eq-eqb _ _ (ap (λ k. k.generation) e))

-- the pending events of other keys
pub others_all : (key : ContKey) (ps : List Pending) → numbers_of key ps ≡ [] → others_of key ps ≡ ps
others_all key [] h = refl
others_all key (p ∷ ps) h =
    split (same_key p.key key) (λ t. cond t (p.number ∷ numbers_of key ps) (numbers_of key ps) ≡ [] → cond t
    (others_of key ps) (p ∷ others_of key ps) ≡ p ∷ ps)
    (λ e x. absurd (cc)) (λ e x. ap (λ rs. p ∷ rs) (others_all key ps x)) h

pub others_stay : (key : ContKey) (n : ℕ) (ps : List Pending) (p : Pending) → pending_at n ps ≡ Some p
    → same_key p.key key ≡ false → pending_at n (others_of key ps) ≡ Some p
others_stay key n [] p h f = absurd (cc)
others_stay key n (q ∷ ps) p h f =
    by_eq q.number n (λ t. cond t (Some q) (pending_at n ps) ≡ Some p → pending_at n
    (cond (same_key q.key key) (others_of key ps) (q ∷ others_of key ps)) ≡ Some p)
    (λ e x.
    let same : q ≡ p = cc in
    let other : same_key q.key key ≡ false = ap (λ v. same_key v.key key) same ∙ f in
    ap (pending_at n) (cond-false (same_key q.key key) (others_of key ps) (q ∷ others_of key ps) other) ∙
    cond-true (eqb q.number n) (Some q) (pending_at n (others_of key ps)) (eq-eqb q.number n e) ∙ ap Some
    same)
    (λ g x. split (same_key q.key key) (λ t. pending_at n (cond t (others_of key ps) (q ∷ others_of key ps)) ≡
    Some p)
    (λ e. others_stay key n ps p x f)
    (λ e. cond-false (eqb q.number n) (Some q) (pending_at n (others_of key ps)) (ne_eqb q.number n g) ∙
    others_stay key n ps p x f)) h

pub others_from : (key : ContKey) (n low : ℕ) (ps : List Pending) (high : ℕ) (p : Pending) → Rises low ps high
    → pending_at n (others_of key ps) ≡ Some p → (pending_at n ps ≡ Some p) × (same_key p.key key ≡ false)
others_from key n low [] high p r h = absurd (cc)
others_from key n low (q ∷ ps) high p (a, b) h =
    split (same_key q.key key) (λ t. pending_at n (cond t (others_of key ps) (q ∷ others_of key ps)) ≡ Some p
    → (cond (eqb q.number n) (Some q) (pending_at n ps) ≡ Some p) × (same_key p.key key ≡ false))
    (λ e x.
    let f = others_from key n (q.number + 1) ps high p b x in
    let ne : q.number ≡ n → ⊥ = λ s. let z : pending_at n ps ≡ None = pending_below n (q.number + 1) ps high b
    (omega arith) in let w = f.0 in cc in
    (cond-false (eqb q.number n) (Some q) (pending_at n ps) (ne_eqb q.number n ne) ∙ f.0, f.1))
    (λ e x. by_eq q.number n (λ t. cond t (Some q) (pending_at n (others_of key ps)) ≡ Some p →
    (cond t (Some q) (pending_at n ps) ≡ Some p) × (same_key p.key key ≡ false))
    (λ s y. let same : q ≡ p = cc in (y, ap (λ v. same_key v.key key) (sym same) ∙ e))
    (λ s y. others_from key n (q.number + 1) ps high p b y) x) h

pub others_length : (key : ContKey) (ps : List Pending) → length (others_of key ps) ≤ length ps
others_length key [] = omega arith
others_length key (p ∷ ps) =
    let r = others_length key ps in
    split (same_key p.key key) (λ t. length (cond t (others_of key ps) (p ∷ others_of key ps)) ≤ length
    (p ∷ ps)) (λ e. omega arith) (λ e. omega arith)

-- what is left when the first event of a key is closed
pub record FirstOf (key : ContKey) (ps : List Pending) (n : ℕ) (ns : List ℕ) : Type 0 where
  pub event : Pending
  pub there : pending_at n ps ≡ Some event
  pub rest : numbers_of key (without n ps) ≡ ns
  pub others : others_of key (without n ps) ≡ others_of key ps

-- the number of an event of a key is not below the bound
first_bound : (key : ContKey) (low : ℕ) (ps : List Pending) (high n : ℕ) (ns : List ℕ) → Rises low ps high
    → numbers_of key ps ≡ n ∷ ns → low ≤ n
first_bound key low [] high n ns r h = absurd (cc)
first_bound key low (p ∷ ps) high n ns (a, b) h =
    split (same_key p.key key) (λ t. cond t (p.number ∷ numbers_of key ps) (numbers_of key ps) ≡ n ∷ ns → low
    ≤ n)
    (λ e x. let same : p.number ≡ n = cc in omega arith)
    (λ e x. let l = first_bound key (p.number + 1) ps high n ns b x in omega arith) h

pub first_of : (key : ContKey) (low : ℕ) (ps : List Pending) (high n : ℕ) (ns : List ℕ) → Rises low ps high
    → numbers_of key ps ≡ n ∷ ns → FirstOf key ps n ns
first_of key low [] high n ns r h = absurd (cc)
first_of key low (p ∷ ps) high n ns (a, b) h =
    split (same_key p.key key) (λ t. same_key p.key key ≡ t → cond t (p.number ∷ numbers_of key ps)
    (numbers_of key ps) ≡ n ∷ ns → FirstOf key (p ∷ ps) n ns)
    (λ e s x.
    let same : p.number ≡ n = cc in
    let here : eqb p.number n ≡ true = eq-eqb p.number n same in
    let left : without n (p ∷ ps) ≡ ps = cond-true (eqb p.number n) ps (p ∷ without n ps) here in
    let tail : numbers_of key ps ≡ ns = cc in
    record {
      event = p;
      there = cond-true (eqb p.number n) (Some p) (pending_at n ps) here;
      rest = ap (numbers_of key) left ∙ tail;
      others = ap (others_of key) left ∙ sym (cond-true (same_key p.key key) (others_of key ps)
          (p ∷ others_of key ps) s);
    })
    (λ e s x.
    let r = first_of key (p.number + 1) ps high n ns b x in
    let l = first_bound key (p.number + 1) ps high n ns b x in
    let ne : p.number ≡ n → ⊥ = λ q. omega arith in
    let not_here : eqb p.number n ≡ false = ne_eqb p.number n ne in
    let left : without n (p ∷ ps) ≡ p ∷ without n ps = cond-false (eqb p.number n) ps (p ∷ without n ps)
    not_here in
    record {
      event = r.event;
      there = cond-false (eqb p.number n) (Some p) (pending_at n ps) not_here ∙ r.there;
      rest = ap (numbers_of key) left ∙ cond-false (same_key p.key key)
          (p.number ∷ numbers_of key (without n ps)) (numbers_of key (without n ps)) s ∙ r.rest;
      others = ap (others_of key) left ∙ cond-false (same_key p.key key) (others_of key (without n ps))
          (p ∷ others_of key (without n ps)) s ∙ ap (λ rs. p ∷ rs) r.others ∙ sym
          (cond-false (same_key p.key key) (others_of key ps) (p ∷ others_of key ps) s);
    }) refl h

-- the first event of a series is pending
pub number_there : (s : ℕ) (ps : List Pending) (low high n : ℕ) → Rises low ps high
    → first_in_series s ps ≡ Some n → (p : Pending) × (pending_at n ps ≡ Some p) × (p.series ≡ s)
number_there s [] low high n r h = absurd (cc)
number_there s (q ∷ ps) low high n (a, b) h =
    by_eq q.series s (λ t. cond t (Some q.number) (first_in_series s ps) ≡ Some n → (p : Pending) ×
    (cond (eqb q.number n) (Some q) (pending_at n ps) ≡ Some p) × (p.series ≡ s))
    (λ e x. let same : q.number ≡ n = cc in (
      q,
      cond-true (eqb q.number n) (Some q) (pending_at n ps)
          (eq-eqb q.number n same),
      e,
    ))
    (λ f x.
    let r = number_there s ps (q.number + 1) high n b x in
    let ne : q.number ≡ n → ⊥ = λ w. let z : pending_at n ps ≡ None = pending_below n (q.number + 1) ps high b
    (omega arith) in let u = r.1 in cc in
    (r.0, cond-false (eqb q.number n) (Some q) (pending_at n ps) (ne_eqb q.number n ne) ∙ r.1, r.2)) h
