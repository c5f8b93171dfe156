-- The event that a scan of the pending ones finds.
use Rattle.std.proofs.Common.{◌≡◌, ℕ, ◌+◌, ◌<◌, ◌≤◌, ◌⊎◌, inl, inr, cond, eqb, leb, List, [], ◌∷◌, Option, Some, None, length, get_or, drop, refl, sym, ap, subst, ◌∙◌, arith}
use Rattle.std.specs.Option.{IfSome}
use Rattle.std.proofs.lemmas.Bool.{leb-true, leb-false, le-leb, lt-leb, eq-eqb, ne_eqb, cond-true, cond-false, cases_lt}
use Rattle.std.proofs.lemmas.List.{drop_more}
use Rattle.ts_journal.specs.declared.entry.TheConstants.{GREATEST}
use Rattle.ts_journal.specs.declared.entry.Pending.{Pending}
use Rattle.ts_journal.specs.State.{State, pending_at}
use Rattle.ts_journal.specs.Machine.{IsValid, Rises}
use Rattle.ts_journal.proofs.Cases.{split, by_eq}
use Rattle.ts_journal.proofs.Lookups.{pending_below}
use Rattle.ts_journal.proofs.Events.{is_known}
use Rattle.ts_group.specs.Due.{IsBefore, IsFirstDue, NoNews, IsNews, sooner}
use Rattle.std.specs.Prelude.{if◌then◌else◌, nat_le}

-- the first of events that stand by rising number after the one that was first so far
abbrev pub soonest : Option Pending → List Pending → Option Pending
soonest b [] = b
soonest b (p ∷ ps) = soonest (Some (sooner b p)) ps

-- the first event of a number that is not below the bound
abbrev pub first_from : ℕ → List Pending → Option Pending
first_from low [] = None
first_from low (p ∷ ps) = if nat_le low p.number then Some p else first_from low ps

-- one event more
pub soonest_more : (b : Option Pending) (ps : List Pending) (i : ℕ) (d : Pending) → i < length ps
    → soonest (Some (sooner b (get_or ps i d))) (drop (i + 1) ps) ≡ soonest b (drop i ps)
soonest_more b ps i d h = sym (ap (soonest b) (drop_more ps i d h))

pub from_past : (low : ℕ) (ps : List Pending) (i : ℕ) (d : Pending) → i < length ps
    → (get_or ps i d).number < low → first_from low (drop (i + 1) ps) ≡ first_from low (drop i ps)
from_past low ps i d h l =
    sym (ap (first_from low) (drop_more ps i d h) ∙ cond-false (leb low (get_or ps i d).number)
    (Some (get_or ps i d)) (first_from low (drop (i + 1) ps)) (lt-leb _ _ l))

pub from_here : (low : ℕ) (ps : List Pending) (i : ℕ) (d : Pending) → i < length ps
    → low ≤ (get_or ps i d).number → first_from low (drop i ps) ≡ Some (get_or ps i d)
from_here low ps i d h l =
    ap (first_from low) (drop_more ps i d h) ∙ cond-true (leb low (get_or ps i d).number)
    (Some (get_or ps i d)) (first_from low (drop (i + 1) ps)) (le-leb _ _ l)

-- what is known of the one that is first among events with numbers from the bound on
record IsSoonest (low : ℕ) (ps : List Pending) (b r : Pending) : Type 0 where
  among : (r ≡ b) ⊎ (pending_at r.number ps ≡ Some r)
  before_best : IsBefore r b
  before_all : (n : ℕ) (p : Pending) → pending_at n ps ≡ Some p → IsBefore r p

before_trans : (a b c : Pending) → IsBefore a b → IsBefore b c → IsBefore a c
before_trans a b c (inl x) (inl y) = inl (omega arith)
before_trans a b c (inl x) (inr (y, z)) = inl (omega arith)
before_trans a b c (inr (x, y)) (inl z) = inl (omega arith)
before_trans a b c (inr (x, y)) (inr (z, w)) = inr (omega arith, omega arith)

record IsSooner (b p r : Pending) : Type 0 where
  among : (r ≡ b) ⊎ (r ≡ p)
  before_best : IsBefore r b
  before_this : IsBefore r p

by_le : (a b : ℕ) → a ≤ b → (a < b) ⊎ (a ≡ b)
by_le a b h = elim (cases_lt a b) [ inl l ↦ inl l | inr g ↦ inr (omega arith) ]

is_sooner : (b p : Pending) → b.number < p.number → IsSooner b p (sooner (Some b) p)
is_sooner b p l =
    split (leb b.due p.due) (λ t. IsSooner b p (cond t b p))
    (λ e. record {
      among = inl refl;
      before_best = inr (refl, omega arith);
      before_this = elim
          (by_le b.due p.due (leb-true b.due p.due e)) [ inl x ↦ inl x | inr x ↦ inr (x, omega arith) ];
    })
    (λ e. record {
      among = inr refl;
      before_best = inl (leb-false b.due p.due e);
      before_this = inr
          (refl, omega arith);
    })

soonest_is : (b : Pending) (low : ℕ) (ps : List Pending) (high : ℕ) → Rises low ps high → b.number < low
    → (r : Pending) × (soonest (Some b) ps ≡ Some r) × IsSoonest low ps b r
soonest_is b low [] high rises l = (
  b,
  refl,
  record
      { among = inl refl; before_best = inr (refl, omega arith); before_all = λ n p h. absurd (cc) },
)
soonest_is b low (q ∷ ps) high (a, rest) l =
    let s = is_sooner b q (omega arith) in
    let c = sooner (Some b) q in
    let below : c.number < q.number + 1 = elim s.among [
      | inl e ↦ let m = ap (λ (v : Pending). v.number) e in omega arith
      | inr e ↦ let m = ap
          (λ (v : Pending). v.number) e in omega arith
    ] in
    let r = soonest_is c (q.number + 1) ps high rest below in
    let k = r.2 in (
      r.0,
      r.1,
      record {
        among = elim k.among [
          | inl e ↦ elim s.among [
            | inl f ↦ inl (e ∙ f)
            | inr f ↦ inr (let same : r.0 ≡ q = e ∙ f in here r.0 same)
          ]
          | inr h ↦ inr (later r.0 h)
        ];
        before_best = before_trans r.0 c b k.before_best s.before_best;
        before_all = λ n p h.
            by_eq q.number n (λ t. cond t (Some q) (pending_at n ps) ≡ Some p → IsBefore r.0 p)
            (λ e x. let same : q ≡ p = cc in subst (λ v. IsBefore r.0 v) same
            (before_trans r.0 c q k.before_best s.before_this))
            (λ f x. k.before_all n p x) h;
      },
    )
  where
    here : (r : Pending) → r ≡ q → pending_at r.number (q ∷ ps) ≡ Some r
    here r e = cond-true (eqb q.number r.number) (Some q) (pending_at r.number ps)
        (eq-eqb q.number r.number (ap (λ v. v.number) (sym e))) ∙ ap Some (sym e)

    later : (r : Pending) → pending_at r.number ps ≡ Some r → pending_at r.number (q ∷ ps) ≡ Some r
    later r h =
        let ne : q.number ≡ r.number → ⊥ = λ e. let none : pending_at r.number ps ≡ None = pending_below
        r.number (q.number + 1) ps high rest (omega arith) in cc in
        cond-false (eqb q.number r.number) (Some q) (pending_at r.number ps) (ne_eqb q.number r.number ne) ∙ h

pub first_if : (s : State) (o : Option Pending) → IsValid s → o ≡ soonest None s.pending
    → (o ≡ None → s.pending ≡ []) × IfSome o (λ p. IsFirstDue s p)
first_if s o v e = all s.pending refl o e
  where
    some : (q : Pending) (ps : List Pending) → s.pending ≡ q ∷ ps → Rises 0 (q ∷ ps) s.next
        → (o : Option Pending) → o ≡ soonest (Some q) ps
        → (o ≡ None → s.pending ≡ []) × IfSome o (λ p. IsFirstDue s p)
    some q ps e rises o f =
        let r = soonest_is q (q.number + 1) ps s.next rises.1 (omega arith) in
        let k = r.2 in
        let is : o ≡ Some r.0 = f ∙ r.1 in
        let here : pending_at r.0.number (q ∷ ps) ≡ Some r.0 = elim k.among [
          | inl e ↦ cond-true (eqb q.number r.0.number) (Some q) (pending_at r.0.number ps)
              (eq-eqb q.number r.0.number (ap (λ (v : Pending). v.number) (sym e))) ∙ ap Some (sym e)
          | inr h ↦
              let ne : q.number ≡ r.0.number → ⊥ = λ e. let none : pending_at r.0.number ps ≡ None =
              pending_below r.0.number (q.number + 1) ps s.next rises.1 (omega arith) in cc in
              cond-false (eqb q.number r.0.number) (Some q) (pending_at r.0.number ps)
              (ne_eqb q.number r.0.number ne) ∙ h
        ] in
        let first : IsFirstDue s r.0 = (
          ap (pending_at r.0.number) e ∙ here,
          λ n p h.
              by_eq q.number n (λ t. cond t (Some q) (pending_at n ps) ≡ Some p → IsBefore r.0 p)
              (λ e x. let same : q ≡ p = cc in subst (λ v. IsBefore r.0 v) same k.before_best)
              (λ f x. k.before_all n p x) (ap (pending_at n) (sym e) ∙ h),
        ) in
        (λ z. absurd (cc), subst (λ x. IfSome x (λ p. IsFirstDue s p)) (sym is) first)

    all : (ps : List Pending) → s.pending ≡ ps → (o : Option Pending) → o ≡ soonest None s.pending
        → (o ≡ None → s.pending ≡ []) × IfSome o (λ p. IsFirstDue s p)
    all [] e o f =
        let is : o ≡ None = f ∙ ap (soonest None) e in
        (λ z. e, subst (λ x. IfSome x (λ p. IsFirstDue s p)) (sym is) tt)
    all (q ∷ ps) e o f = some q ps e (subst (λ qs. Rises 0 qs s.next) e v.rises) o (f ∙ ap (soonest None) e)

-- the first event that is not below the bound
record IsFrom (low : ℕ) (ps : List Pending) (o : Option Pending) : Type 0 where
  none : o ≡ None → (n : ℕ) (p : Pending) → pending_at n ps ≡ Some p → n < low
  found : (r : Pending) → o ≡ Some r → (pending_at r.number ps ≡ Some r) × (low ≤ r.number) ×
      ((n : ℕ) (p : Pending) → pending_at n ps ≡ Some p → low ≤ n → r.number ≤ n)

from_is : (low bound : ℕ) (ps : List Pending) (high : ℕ) → Rises bound ps high
    → IsFrom low ps (first_from low ps)
from_is low bound [] high r = record { none = λ z n p h. absurd (cc); found = λ r h. absurd (cc) }
from_is low bound (q ∷ ps) high (a, rest) =
    let k = from_is low (q.number + 1) ps high rest in
    split (leb low q.number) (λ t. IsFrom low (q ∷ ps) (cond t (Some q) (first_from low ps)))
    (λ e. record {
      none = λ z. absurd (cc);
      found = λ r h.
          let same : q ≡ r = cc in
          let l = leb-true low q.number e in
          let m : q.number ≡ r.number = ap (λ (v : Pending). v.number) same in (
            cond-true (eqb q.number r.number) (Some q) (pending_at r.number ps) (eq-eqb q.number r.number m) ∙
                ap Some same,
            omega arith,
            λ n p x y. elim (cases_lt n q.number) [
              | inl below ↦ let none : pending_at n (q ∷ ps) ≡ None = pending_below n q.number (q ∷ ps) high
                  (omega arith, rest) below in absurd (cc)
              | inr above ↦ omega arith
            ],
          );
    })
    (λ e.
    let l = leb-false low q.number e in
    record {
      none = λ z n p h.
          by_eq q.number n (λ t. cond t (Some q) (pending_at n ps) ≡ Some p → n < low)
          (λ f x. omega arith) (λ f x. k.none z n p x) h;
      found = λ r h.
          let g = k.found r h in
          let ge = g.1 in
          let ne : q.number ≡ r.number → ⊥ = λ w. omega arith in (
            cond-false (eqb q.number r.number) (Some q) (pending_at r.number ps) (ne_eqb q.number r.number ne)
                ∙ g.0,
            ge,
            λ n p x y.
                by_eq q.number n (λ t. cond t (Some q) (pending_at n ps) ≡ Some p → r.number ≤ n)
                (λ f w. absurd (omega arith)) (λ f w. g.2 n p w y) x,
          );
    })

pub news_if : (s : State) (low : ℕ) (o : Option Pending) → IsValid s → o ≡ first_from low s.pending
    → (o ≡ None → NoNews low s) × IfSome o (λ p. IsNews low s p × (p.number < GREATEST))
news_if s low o v e =
    let k : IsFrom low s.pending o = subst (λ x. IsFrom low s.pending x) (sym e)
    (from_is low 0 s.pending s.next v.rises) in (
      k.none,
      if_some o (λ r h.
          let f = k.found r h in
          let b = (is_known s r.number r v f.0).below in
          let m = v.fits in
          (f, omega arith)),
    )
  where
    if_some : (o : Option Pending) → ((r : Pending) → o ≡ Some r → IsNews low s r × (r.number < GREATEST))
        → IfSome o (λ p. IsNews low s p × (p.number < GREATEST))
    if_some None f = tt
    if_some (Some r) f = f r refl
