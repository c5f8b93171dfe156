-- Counts of tickets and numbers, and what the rule of the queue says of a pass's next ticket.
use Rattle.std.proofs.Common.{◌≡◌, ℕ, ◌+◌, ◌<◌, ◌≤◌, Bool, cond, List, [], ◌∷◌, length, get_or, set, refl, All, arith, subst, inl, inr, ⊎_elim, ◌==◌, ◌⊎◌}
use Rattle.std.specs.List.{sum_by, count_by}
use Rattle.std.proofs.lemmas.Bool.{cases_lt, cases_eq}
use Rattle.std.proofs.lemmas.List.Sums.{sum_by-cons, get_or-le-sum_by}
use Rattle.std.proofs.lemmas.List.Elements.{All-head, All-tail, All-set, All-contains}
use Rattle.std.proofs.lemmas.Bool.Decides.{nat_tests}
use mathlib.Core.Option.{some}
use lib.ListN.{get_elem?}
use Rattle.ts_queue.specs.declared.ticket.Ticket.{Ticket}
use Rattle.ts_queue.specs.declared.view.PassView.{PassView}
use Rattle.ts_queue.specs.Tickets.{is_numbered, is_same_ticket}
use Rattle.ts_queue.specs.Views.{spent, owned, kept_part, split_part}
use Rattle.ts_queue.specs.Rule.{IsLawfulView, IsLawfulQueue}
use Rattle.ts_lists.proofs.Sums.{sum_by-set_at, sum_by-zero_by}
use Rattle.ts_lists.proofs.Places.{place_contained}

-- 1 where the test holds, and else 0
abbrev pub one_if : Bool → ℕ
one_if b = cond b 1 0

pub numbered_one : (p s : ℕ) (t : Ticket) → t.putter ≡ p → t.serial ≡ s → one_if (is_numbered p s t) ≡ 1
numbered_one p s t e d = grind (arith, nat_tests)

pub numbered_none : (p s : ℕ) (t : Ticket) → (t.putter ≡ p → t.serial ≡ s → ⊥)
    → one_if (is_numbered p s t) ≡ 0
numbered_none p s t n = grind (arith, nat_tests)

-- a ticket has this putter and serial, or counts as none that has
pub numbered_cases : (p s : ℕ) (t : Ticket)
    → ((t.putter ≡ p) × (t.serial ≡ s) × (one_if (is_numbered p s t) ≡ 1)) ⊎ (one_if (is_numbered p s t) ≡ 0)
numbered_cases p s t =
    ⊎_elim (λ (e : t.putter ≡ p). ⊎_elim (λ (d : t.serial ≡ s). inl (e, d, numbered_one p s t e d))
    (λ (n : t.serial ≡ s → ⊥). inr (numbered_none p s t (λ _ d. n d))) (cases_eq t.serial s))
    (λ (n : t.putter ≡ p → ⊥). inr (numbered_none p s t (λ e _. n e)))
    (cases_eq t.putter p)

pub same-le-numbered : (t u : Ticket) → one_if (is_same_ticket t u) ≤ one_if (is_numbered t.putter t.serial u)
same-le-numbered t u = grind (arith, nat_tests)

-- where a list has no ticket of that putter and serial, none stands at any place
pub none_there : (p s : ℕ) (ts : List Ticket) (k : ℕ) (d : Ticket) → k < length ts
    → count_by (is_numbered p s) ts ≡ 0
    → (get_or ts k d).putter ≡ p → (get_or ts k d).serial ≡ s → ⊥
none_there p s ts k d in' none e f =
    let one : one_if (is_numbered p s (get_or ts k d)) ≡ 1 = numbered_one p s (get_or ts k d) e f in
    let le : one_if (is_numbered p s (get_or ts k d)) ≤ count_by (is_numbered p s) ts = get_or-le-sum_by
    (λ (t : Ticket). one_if (is_numbered p s t)) ts k d in' in
    omega arith

-- where no ticket of the putter stands with a serial above n, all its serials are at most n
pub all_low : (p n : ℕ) (ts : List Ticket) → ((s : ℕ) → n < s → count_by (is_numbered p s) ts ≡ 0)
    → All (λ t. t.putter ≡ p → t.serial ≤ n) ts
all_low p n ts none k d in' e =
    ⊎_elim (λ (lt : n < (get_or ts k d).serial). absurd (none_there p s ts k d in' (none s lt) e refl))
    (λ (le : s ≤ n). le) (cases_lt n s)
  where
    s : ℕ
    s = (get_or ts k d).serial

-- tickets that have other putters or serials do not count
pub count_none : (p s : ℕ) (ts : List Ticket) → All (λ t. t.putter ≡ p → t.serial ≡ s → ⊥) ts
    → count_by (is_numbered p s) ts ≡ 0
count_none p s [] all = refl
count_none p s (t ∷ ts) all =
    let one : one_if (is_numbered p s t) ≡ 0 = numbered_none p s t
    (All-head (λ (u : Ticket). u.putter ≡ p → u.serial ≡ s → ⊥) t ts all) in
    let rest : count_by (is_numbered p s) ts ≡ 0 = count_none p s ts
    (All-tail (λ (u : Ticket). u.putter ≡ p → u.serial ≡ s → ⊥) t ts all) in
    omega (arith, sum_by-cons (λ (u : Ticket). one_if (is_numbered p s u)) t ts)

pub owned-spent : (x : ℕ) → owned x spent ≡ 0
owned-spent x = grind (arith, nat_tests)

-- a number that was free goes to the pass that is split off
pub owned-split : (x : ℕ) (v : PassView) → v.free_from < v.free_to
    → owned x (kept_part v) + owned x (split_part v) ≡ owned x v
owned-split x v free = grind (arith, nat_tests)

pub named-itself : (x : ℕ) → 0 < count_by (λ n. n == x) (x ∷ [])
named-itself x = grind (arith, nat_tests)

pub spent_lawful : IsLawfulView spent
spent_lawful = record {
  own = λ h. absurd (omega arith);
  names = λ k d h. absurd (omega arith);
  last = λ k d h. absurd (omega arith);
  blank = λ _. refl;
}

-- a pass that does not have a number as a name put no ticket under it
pub count-unnamed : (p s : ℕ) (v : PassView) → IsLawfulView v → owned p v ≡ 0
    → count_by (is_numbered p s) v.put ≡ 0
count-unnamed p s v ok none = count_none p s v.put (λ k d in' e _.
    let name : 0 < count_by (λ n. n == (get_or v.put k d).putter) v.names = (ok.names k d in').0 in
    let named : 0 < count_by (λ n. n == p) v.names = subst (λ (q : ℕ). 0 < count_by (λ n. n == q) v.names) e
    name in
    omega arith)

-- no pass put a ticket under this pass's number with a serial above its last
pub none_later : (items : List Ticket) (views : List PassView) (id : ℕ) (v : PassView)
    → IsLawfulQueue items views
    → get_elem? views id ≡ some v → 0 < v.share → (s : ℕ) → v.serial < s
    → sum_by (λ u. count_by (is_numbered v.number s) u.put) views ≡ 0
none_later items views id v h at alive s later =
    let F : PassView → ℕ = λ u. count_by (is_numbered v.number s) u.put in
    let others : List PassView = set views id spent in
    let mine : IsLawfulView v = All-contains IsLawfulView views v h.each_view (place_contained views id v at)
    in
    let own : 0 < count_by (λ n. n == v.number) v.names = mine.own alive in
    let apart : sum_by (owned v.number) others ≡ 0 = omega
    (arith, sum_by-set_at (owned v.number) views id v spent at, h.apart v.number, owned-spent v.number) in
    let rest : sum_by F others ≡ 0 = sum_by-zero_by IsLawfulView (owned v.number) F (count-unnamed v.number s)
    others (All-set IsLawfulView views id spent spent_lawful h.each_view) apart in
    let here : F v ≡ 0 = count_none v.number s v.put
    (λ k d in' e f. let le : (get_or v.put k d).serial ≤ v.serial = mine.last k d in' e in omega arith) in
    omega (arith, sum_by-set_at F views id v spent at)
