-- Pending events in lists: in rising order, of live keys, in series that have begun.
use Rattle.std.proofs.Common.{◌≡◌, ℕ, ◌+◌, ◌≤◌, true, cond, eqb, List, [], ◌∷◌, ◌++◌, Option, Some, None, length, refl, sym, ap, subst, ◌∙◌, arith}
use Rattle.std.specs.Option.{IfSome}
use Rattle.std.proofs.lemmas.Bool.{eq-eqb, and_from}
use Rattle.ts_journal.specs.declared.entry.ContKey.{ContKey}
use Rattle.ts_journal.specs.declared.entry.Pending.{Pending}
use Rattle.ts_journal.specs.State.{State, pending_at, without, generation_at, without_index, IsLive, same_key, numbers_of}
use Rattle.ts_journal.specs.Machine.{Rises, AllLive, AllBegun, IsValid, IsKnown}
use Rattle.ts_journal.proofs.Cases.{split, by_eq}
use Rattle.ts_journal.proofs.Keys.{generation_more, generation_without, some_inj}

pub rises_lower : (low below : ℕ) (ps : List Pending) (high : ℕ) → below ≤ low → Rises low ps high
    → Rises below ps high
rises_lower low below [] high h r = omega arith
rises_lower low below (p ∷ ps) high h (a, b) = (omega arith, b)

pub rises_bound : (low : ℕ) (ps : List Pending) (high : ℕ) → Rises low ps high → low ≤ high
rises_bound low [] high r = r
rises_bound low (p ∷ ps) high (a, b) = let r = rises_bound (p.number + 1) ps high b in omega arith

pub rises_push : (low : ℕ) (ps : List Pending) (high : ℕ) (p : Pending) → p.number ≡ high → Rises low ps high
    → Rises low (ps ++ p ∷ []) (high + 1)
rises_push low [] high p e r = (omega arith, omega arith)
rises_push low (q ∷ ps) high p e (a, b) = (a, rises_push (q.number + 1) ps high p e b)

pub rises_without : (n low : ℕ) (ps : List Pending) (high : ℕ) → Rises low ps high
    → Rises low (without n ps) high
rises_without n low [] high r = r
rises_without n low (p ∷ ps) high (a, b) =
    split (eqb p.number n) (λ t. Rises low (cond t ps (p ∷ without n ps)) high)
    (λ e. rises_lower (p.number + 1) low ps high (omega arith) b)
    (λ e. (a, rises_without n (p.number + 1) ps high b))

pub length_without : (n : ℕ) (ps : List Pending) (p : Pending) → pending_at n ps ≡ Some p
    → length (without n ps) + 1 ≡ length ps
length_without n [] p h = absurd (cc)
length_without n (q ∷ ps) p h =
    split (eqb q.number n) (λ t. cond t (Some q) (pending_at n ps) ≡ Some p → length
    (cond t ps (q ∷ without n ps)) + 1 ≡ length (q ∷ ps))
    (λ e x. omega arith) (λ e x. let r = length_without n ps p x in omega arith) h

-- a number that is not pending is not removed
pub without_none : (n : ℕ) (ps : List Pending) → pending_at n ps ≡ None → without n ps ≡ ps
without_none n [] h = refl
without_none n (q ∷ ps) h =
    split (eqb q.number n) (λ t. cond t (Some q) (pending_at n ps) ≡ None → cond t ps (q ∷ without n ps) ≡ q ∷
    ps)
    (λ e x. absurd (cc)) (λ e x. ap (λ rs. q ∷ rs) (without_none n ps x)) h

pub alive_less : (live : List ContKey) (n : ℕ) (ps : List Pending) → AllLive live ps
    → AllLive live (without n ps)
alive_less live n [] h = tt
alive_less live n (p ∷ ps) (a, b) = split (eqb p.number n) (λ t. AllLive live (cond t ps (p ∷ without n ps)))
    (λ e. b) (λ e. (a, alive_less live n ps b))

pub alive_push : (live : List ContKey) (ps : List Pending) (p : Pending) → AllLive live ps → IsLive live p.key
    → AllLive live (ps ++ p ∷ [])
alive_push live [] p h l = (l, tt)
alive_push live (q ∷ ps) p (a, b) l = (a, alive_push live ps p b l)

pub alive_more : (live : List ContKey) (k : ContKey) (ps : List Pending) → AllLive live ps
    → AllLive (live ++ k ∷ []) ps
alive_more live k [] h = tt
alive_more live k (p ∷ ps) (a, b) = (
  generation_more p.key.index live (k ∷ []) p.key.generation a,
  alive_more
      live k ps b,
)

-- a key that has no pending event can go
pub alive_destroyed : (live : List ContKey) (key : ContKey) (ps : List Pending) → IsLive live key
    → numbers_of key ps ≡ [] → AllLive live ps → AllLive (without_index key.index live) ps
alive_destroyed live key [] l e h = tt
alive_destroyed live key (p ∷ ps) l e (a, b) =
    split (same_key p.key key) (λ t. cond t (p.number ∷ numbers_of key ps) (numbers_of key ps) ≡ [] → AllLive
    (without_index key.index live) (p ∷ ps))
    (λ s q. absurd (cc))
    (λ s q.
    let other : key.index ≡ p.key.index → ⊥ =
    λ i.
    let g : p.key.generation ≡ key.generation = some_inj _ _
    (sym a ∙ ap (λ j. generation_at j live) (sym i) ∙ l) in
    let same : same_key p.key key ≡ true = and_from (eqb p.key.index key.index)
    (eqb p.key.generation key.generation) (eq-eqb _ _ (sym i)) (eq-eqb _ _ g) in
    cc
    in
    (generation_without p.key.index key.index live other ∙ a, alive_destroyed live key ps l q b)) e

pub begun_push : (ps : List Pending) (p : Pending) → AllBegun ps → p.series ≤ p.number
    → AllBegun (ps ++ p ∷ [])
begun_push [] p h l = (l, tt)
begun_push (q ∷ ps) p (a, b) l = (a, begun_push ps p b l)

pub begun_without : (n : ℕ) (ps : List Pending) → AllBegun ps → AllBegun (without n ps)
begun_without n [] h = tt
begun_without n (p ∷ ps) (a, b) = split (eqb p.number n) (λ t. AllBegun (cond t ps (p ∷ without n ps)))
    (λ e. b) (λ e. (a, begun_without n ps b))

-- what is known of the event of a number
pub known_in : (s : State) (n : ℕ) (p : Pending) (low : ℕ) (ps : List Pending) → Rises low ps s.next
    → AllLive s.live ps → AllBegun ps → pending_at n ps ≡ Some p → IsKnown s n p
known_in s n p low [] r a b h = absurd (cc)
known_in s n p low (q ∷ ps) (r, rs) (a, others) (b, bs) h =
    by_eq q.number n (λ t. cond t (Some q) (pending_at n ps) ≡ Some p → IsKnown s n p)
    (λ e x.
    let same : q ≡ p = cc in
    let l = rises_bound (q.number + 1) ps s.next rs in
    let k : IsKnown s n q = record { number = e; live = a; below = omega arith; begun = b } in
    subst (λ v. IsKnown s n v) same k)
    (λ f x. known_in s n p (q.number + 1) ps rs others bs x) h

pub is_known : (s : State) (n : ℕ) (p : Pending) → IsValid s → pending_at n s.pending ≡ Some p → IsKnown s n p
is_known s n p v h = known_in s n p 0 s.pending v.rises v.alive v.begun h

pub is_known_if : (s : State) (n : ℕ) (o : Option Pending) → IsValid s → o ≡ pending_at n s.pending
    → IfSome o (λ p. IsKnown s n p)
is_known_if s n None v e = tt
is_known_if s n (Some p) v e = is_known s n p v (sym e)
