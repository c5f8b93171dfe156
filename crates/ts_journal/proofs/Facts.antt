-- The laws of a lawful journal.
use Rattle.std.proofs.Common.{◌≡◌, ℕ, ◌+◌, ◌<◌, ◌≤◌, ◌⊎◌, inl, inr, true, false, cond, eqb, List, [], ◌∷◌, ◌++◌, Some, None, refl, sym, ap, subst, ◌∙◌, arith}
use Rattle.std.specs.Prelude.{unwrap_or}
use Rattle.std.proofs.lemmas.Bool.{false≢true, cases_lt, eq-eqb, ne_eqb, cond-true, cond-false}
use Rattle.ts_journal.specs.declared.entry.ContKey.{ContKey}
use Rattle.ts_journal.specs.declared.entry.Pending.{Pending}
use Rattle.ts_journal.specs.declared.entry.Entry.{Entry}
use Rattle.ts_journal.specs.declared.entry.Entry.TheVariants.{Took, Gave, Made, Set, Handled, Cancelled, Dropped, Destroyed}
use Rattle.ts_journal.specs.State.{State, pending_at, without, generation_at, without_index, IsLive}
use Rattle.ts_journal.specs.Machine.{Allowed, after, IsLawful, replay, IsValid, Rises, AreNewest}
use Rattle.ts_journal.specs.Laws.{numbers_set, RiseFrom, NumbersRise, times_set, times_closed, times_pending, Closes, ClosedOnce, NotDestroyed, NotMade, Stands, HandledLive, IsInner, Began, Ends, StandInTurns, CountsBalance, NeverAgain, ClosedForGood}
use Rattle.ts_journal.proofs.Cases.{split, by_eq}
use Rattle.ts_journal.proofs.Keys.{generation_push, generation_other, generation_with, generation_without, generation_gone, newest_of_live, some_inj, key_by}
use Rattle.ts_journal.proofs.Events.{is_known, rises_bound}
use Rattle.ts_journal.proofs.Lawful.{replay-append, lawful_front, lawful_back}
use Rattle.ts_journal.proofs.Validity.{balance_after, valid_after, valid_replay}

pub numbers_rise_lem : NumbersRise
numbers_rise_lem base [] h = tt
numbers_rise_lem base (Set number key event due series period ∷ es) (a, rest) =
    let e : base.next ≡ number = sym a.1 in
    let r : RiseFrom (base.next + 1) (numbers_set es) = numbers_rise_lem
    (after base (Set number key event due series period)) es rest in
    (omega arith, subst (λ n. RiseFrom (n + 1) (numbers_set es)) e r)
numbers_rise_lem base (e ∷ es) (a, rest) = numbers_rise_lem (after base e) es rest

pub counts_balance_lem : CountsBalance
counts_balance_lem base [] b h = b
counts_balance_lem base (e ∷ es) b (a, rest) = counts_balance_lem (after base e) es (balance_after base e b a)
    rest

-- How often a number is pending.
pending_push : (n : ℕ) (ps : List Pending) (p : Pending)
    → times_pending n (ps ++ p ∷ []) ≡ times_pending n ps + cond (eqb p.number n) 1 0
pending_push n [] p = omega arith
pending_push n (q ∷ ps) p = let r = pending_push n ps p in omega arith

pending_less : (n m : ℕ) (ps : List Pending) (p : Pending) → pending_at m ps ≡ Some p
    → times_pending n (without m ps) + cond (eqb m n) 1 0 ≡ times_pending n ps
pending_less n m [] p h = absurd (cc)
pending_less n m (q ∷ ps) p h =
    by_eq q.number m (λ t. cond t (Some q) (pending_at m ps) ≡ Some p → times_pending n
    (cond t ps (q ∷ without m ps)) + cond (eqb m n) 1 0 ≡ cond (eqb q.number n) 1 0 + times_pending n ps)
    (λ e x. let same : cond (eqb m n) 1 0 ≡ cond (eqb q.number n) 1 0 = ap (λ k. cond {A = ℕ} (eqb k n) 1 0)
    (sym e) in omega arith)
    (λ f x. let r = pending_less n m ps p x in omega arith) h

pending_some : (n : ℕ) (ps : List Pending) (p : Pending) → pending_at n ps ≡ Some p → 1 ≤ times_pending n ps
pending_some n [] p h = absurd (cc)
pending_some n (q ∷ ps) p h =
    split (eqb q.number n) (λ t. cond t (Some q) (pending_at n ps) ≡ Some p → 1 ≤ cond t 1 0 + times_pending n
    ps)
    (λ e x. omega arith) (λ e x. let r = pending_some n ps p x in omega arith) h

record PendingOnce (low n high times : ℕ) : Type 0 where
  once : times ≤ 1
  below : n < low → times ≡ 0
  above : high ≤ n → times ≡ 0

pending_once : (n low : ℕ) (ps : List Pending) (high : ℕ) → Rises low ps high
    → PendingOnce low n high (times_pending n ps)
pending_once n low [] high r = record { once = omega arith; below = λ _. refl; above = λ _. refl }
pending_once n low (q ∷ ps) high (a, b) =
    let r = pending_once n (q.number + 1) ps high b in
    let l = rises_bound (q.number + 1) ps high b in
    by_eq q.number n (λ t. PendingOnce low n high (cond t 1 0 + times_pending n ps))
    (λ e. let z : times_pending n ps ≡ 0 = r.below (omega arith) in record
    { once = omega arith; below = λ h. absurd (omega arith); above = λ h. absurd (omega arith) })
    (λ f. record {
      once = let o = r.once in omega arith;
      below = λ h. let z = r.below (omega arith) in omega
          arith;
      above = λ h. let z = r.above h in omega arith;
    })

-- how often a number is set
record SetOnce (n next times : ℕ) : Type 0 where
  once : times ≤ 1
  below : n < next → times ≡ 0

set_once : (base : State) (es : List Entry) (n : ℕ) → IsLawful base es → SetOnce n base.next (times_set n es)
set_once base [] n h = record { once = omega arith; below = λ _. refl }
set_once base (Set number key event due series period ∷ es) n (a, rest) =
    let e : number ≡ base.next = a.1 in
    let r : SetOnce n (base.next + 1) (times_set n es) = set_once
    (after base (Set number key event due series period)) es n rest in
    by_eq number n (λ t. SetOnce n base.next (cond t 1 0 + times_set n es))
    (λ f. let z : times_set n es ≡ 0 = r.below (omega arith) in record
    { once = omega arith; below = λ h. absurd (omega arith) })
    (λ f. record {
      once = let o = r.once in omega arith;
      below = λ h. let z = r.below (omega arith) in omega
          arith;
    })
set_once base (e ∷ es) n (a, rest) = set_once (after base e) es n rest

adds_up : (base : State) (es : List Entry) (n : ℕ) → IsLawful base es
    → times_closed n es + times_pending n (replay base es).pending ≡ times_pending n base.pending + times_set
    n es
adds_up base [] n h = omega arith
adds_up base (Took turn seat ∷ es) n (a, rest) = adds_up (after base (Took turn seat)) es n rest
adds_up base (Gave turn ∷ es) n (a, rest) = adds_up (after base (Gave turn)) es n rest
adds_up base (Made key ∷ es) n (a, rest) = adds_up (after base (Made key)) es n rest
adds_up base (Destroyed key ∷ es) n (a, rest) = adds_up (after base (Destroyed key)) es n rest
adds_up base (Set number key event due series period ∷ es) n (a, rest) =
    let r = adds_up (after base (Set number key event due series period)) es n rest in
    let p = pending_push n base.pending (record
    { number = number; key = key; event = event; due = due; series = series; period = period }) in
    omega arith
adds_up base (Handled number moment ∷ es) n ((held, p, there, due), rest) =
    let r = adds_up (after base (Handled number moment)) es n rest in
    let l = pending_less n number base.pending p there in
    omega arith
adds_up base (Cancelled number ∷ es) n ((held, p, there), rest) =
    let r = adds_up (after base (Cancelled number)) es n rest in
    let l = pending_less n number base.pending p there in
    omega arith
adds_up base (Dropped number ∷ es) n ((held, p, there), rest) =
    let r = adds_up (after base (Dropped number)) es n rest in
    let l = pending_less n number base.pending p there in
    omega arith

-- in all, a number is pending at the base or set at most once
at_most_one : (base : State) (es : List Entry) (n : ℕ) → IsValid base → IsLawful base es
    → times_pending n base.pending + times_set n es ≤ 1
at_most_one base es n v h =
    let p = pending_once n 0 base.pending base.next v.rises in
    let q = set_once base es n h in
    let a = p.once in
    let b = q.once in
    elim (cases_lt n base.next) [
      | inl below ↦ let z = q.below below in omega arith
      | inr above ↦ let z = p.above above in omega arith
    ]

-- a number that is not pending is so no time
pending_none : (n : ℕ) (ps : List Pending) → pending_at n ps ≡ None → times_pending n ps ≡ 0
pending_none n [] h = refl
pending_none n (q ∷ ps) h =
    split (eqb q.number n) (λ t. cond t (Some q) (pending_at n ps) ≡ None → cond t 1 0 + times_pending n ps ≡
    0)
    (λ e x. absurd (cc)) (λ e x. let r = pending_none n ps x in omega arith) h

pub closed_for_good_lem : ClosedForGood
closed_for_good_lem base es n v h below none =
    let sum = adds_up base es n h in
    let pending = pending_none n base.pending none in
    let set = (set_once base es n h).below below in
    omega arith

-- an entry that closes a number finds it pending
closes_pending : (s : State) (e : Entry) (n : ℕ) → Allowed s e → Closes n e → 1 ≤ times_pending n s.pending
closes_pending s (Handled number moment) n (held, p, there, due) e = subst
    (λ k. 1 ≤ times_pending k s.pending) e (pending_some number s.pending p there)
closes_pending s (Cancelled number) n (held, p, there) e = subst (λ k. 1 ≤ times_pending k s.pending) e
    (pending_some number s.pending p there)
closes_pending s (Dropped number) n (held, p, there) e = subst (λ k. 1 ≤ times_pending k s.pending) e
    (pending_some number s.pending p there)
closes_pending s (Took turn seat) n a e = absurd e
closes_pending s (Gave turn) n a e = absurd e
closes_pending s (Made key) n a e = absurd e
closes_pending s (Set number key event due series period) n a e = absurd e
closes_pending s (Destroyed key) n a e = absurd e

pub closed_once_lem : ClosedOnce
closed_once_lem base es v h n = record {
  once = let a = adds_up base es n h in let m = at_most_one base es n v h in omega arith;
  set_before = λ before rest e eq c.
      let whole : IsLawful base (before ++ e ∷ rest) = subst (λ fs. IsLawful base fs) eq h in
      let front = lawful_front base before (e ∷ rest) whole in
      let back = lawful_back base before (e ∷ rest) whole in
      let a = adds_up base before n front in
      let m = at_most_one base before n v front in
      let p = closes_pending (replay base before) e n back.0 c in
      (omega arith, omega arith);
  adds_up = adds_up base es n h;
}

-- A key that is live was live at the base or was made, and was not destroyed since.
pub made_before : (live : List ContKey) (k key : ContKey) → generation_at k.index live ≡ None
    → IsLive (live ++ k ∷ []) key → IsLive live key ⊎ (k ≡ key)
made_before live k key free l =
    by_eq k.index key.index (λ t. IsLive live key ⊎ (k ≡ key))
    (λ e.
    let here : generation_at key.index (live ++ k ∷ []) ≡ Some k.generation =
    ap (λ i. generation_at i (live ++ k ∷ [])) (sym e) ∙ generation_push k.index live k free ∙ cond-true
    (eqb k.index k.index) (Some k.generation) None (eq-eqb k.index k.index refl) in
    inr (key_by k key e (some_inj _ _ (sym here ∙ l))))
    (λ f. inl (sym (generation_other key.index live k f) ∙ l))

-- a key that is live after another went was live before
pub live_before : (newest live : List ContKey) (k key : ContKey) → AreNewest newest live
    → IsLive (without_index k.index live) key → IsLive live key × (k ≡ key → ⊥)
live_before newest live k key v l =
    let other : k.index ≡ key.index → ⊥ =
    λ e. let gone : generation_at key.index (without_index k.index live) ≡ None = ap
    (λ i. generation_at i (without_index k.index live)) (sym e) ∙ generation_gone newest k.index live v in
    cc in
    (sym (generation_without key.index k.index live other) ∙ l, λ same. other (ap (λ q. q.index) same))

stands_more : (base : State) (e : Entry) (es : List Entry) (key : ContKey) (before rest : List Entry)
    → es ≡ before ++ Made key ∷ rest → NotDestroyed key rest → Stands base (e ∷ es) key
stands_more base e es key before rest eq nd = inr (e ∷ before, rest, ap (λ fs. e ∷ fs) eq, nd)

stands : (base : State) (es : List Entry) (key : ContKey) → IsValid base → IsLawful base es
    → IsLive (replay base es).live key → Stands base es key
stands base [] key v h l = inl (l, tt)
stands base (Made k ∷ es) key v (a, rest) l =
    elim (stands (after base (Made k)) es key (valid_after base (Made k) v a) rest l) [
      | inl q ↦ elim (made_before base.live k key a.2 q.0) [
        | inl before ↦ inl (before, q.1)
        | inr same ↦ inr ([], es, ap (λ j. Made j ∷ es) same, q.1)
      ]
      | inr q ↦ stands_more base (Made k) es key q.0 q.1 q.2 q.3
    ]
stands base (Destroyed k ∷ es) key v (a, rest) l =
    elim (stands (after base (Destroyed k)) es key (valid_after base (Destroyed k) v a) rest l) [
      | inl q ↦ let b = live_before base.newest base.live k key v.newest q.0 in inl (b.0, (b.1, q.1))
      | inr q ↦ stands_more base (Destroyed k) es key q.0 q.1 q.2 q.3
    ]
stands base (e ∷ es) key v (a, rest) l =
    elim (stands (after base e) es key (valid_after base e v a) rest l) [
      | inl q ↦ inl (q.0, q.1)
      | inr q ↦ stands_more base e es key q.0 q.1 q.2 q.3
    ]

pub handled_live_lem : HandledLive
handled_live_lem base before number moment rest v h =
    let front = lawful_front base before (Handled number moment ∷ rest) h in
    let back = lawful_back base before (Handled number moment ∷ rest) h in
    let a = back.0 in
    let k = is_known (replay base before) number a.1 (valid_replay base before v front) a.2 in
    (a.1, a.2, k.live, stands base before a.1.key v front k.live)

-- A turn that is held began; one that is held no more ended.
began : (base : State) (es : List Entry) → IsLawful base es → (replay base es).held ≡ true
    → Began base es (replay base es).turns
began base [] h t = inl (t, refl, tt)
began base (Took turn seat ∷ es) (a, rest) t =
    elim (began (after base (Took turn seat)) es rest t) [
      | inl q ↦ inr ([], seat, es, ap (λ n. Took n seat ∷ es) (sym q.1), q.2)
      | inr q ↦ inr (Took turn seat ∷ q.0, q.1, q.2, ap (λ fs. Took turn seat ∷ fs) q.3, q.4)
    ]
began base (Gave turn ∷ es) (a, rest) t =
    elim (began (after base (Gave turn)) es rest t) [
      | inl q ↦ absurd (false≢true q.0)
      | inr q ↦ inr (Gave turn ∷ q.0, q.1, q.2, ap (λ fs. Gave turn ∷ fs) q.3, q.4)
    ]
began base (e ∷ es) (a, rest) t =
    elim (began (after base e) es rest t) [
      | inl q ↦ inl (q.0, q.1, q.2)
      | inr q ↦ inr (e ∷ q.0, q.1, q.2, ap (λ fs. e ∷ fs) q.3, q.4)
    ]

ends : (base : State) (es : List Entry) → IsLawful base es → base.held ≡ true → (replay base es).held ≡ false
    → Ends es base.turns
ends base [] h t f = absurd (false≢true (sym f ∙ t))
ends base (Took turn seat ∷ es) (a, rest) t f = absurd (false≢true (sym a.0 ∙ t))
ends base (Gave turn ∷ es) (a, rest) t f = ([], es, ap (λ n. Gave n ∷ es) a.1, tt)
ends base (e ∷ es) (a, rest) t f =
    let q = ends (after base e) es rest t f in (e ∷ q.0, q.1, ap (λ fs. e ∷ fs) q.2, q.3)

-- an inner entry stands in a turn and leaves it as it is
inner : (s : State) (e : Entry) → IsInner e → Allowed s e
    → (s.held ≡ true) × ((after s e).held ≡ true) × ((after s e).turns ≡ s.turns)
inner s (Took turn seat) i a = absurd i
inner s (Gave turn) i a = absurd i
inner s (Made key) i a = (a.0, a.0, refl)
inner s (Set number key event due series period) i a = (a.0, a.0, refl)
inner s (Handled number moment) i a = (a.0, a.0, refl)
inner s (Cancelled number) i a = (a.0, a.0, refl)
inner s (Dropped number) i a = (a.0, a.0, refl)
inner s (Destroyed key) i a = (a.0, a.0, refl)

pub stand_in_turns_lem : StandInTurns
stand_in_turns_lem base before e rest h i =
    let front = lawful_front base before (e ∷ rest) h in
    let back = lawful_back base before (e ∷ rest) h in
    let s = replay base before in
    let n = inner s e i back.0 in (
      s.turns,
      began base before front n.0,
      λ f.
          let g : (replay (after s e) rest).held ≡ false = ap (λ t. t.held)
          (sym (replay-append base before (e ∷ rest))) ∙ f in
          subst (λ t. Ends rest t) n.2 (ends (after s e) rest back.1 n.1 g),
    )

-- A key that is not live, where its index has gone on to its generation or further.
record IsPast (s : State) (key : ContKey) : Type 0 where
  newest : ℕ
  there : generation_at key.index s.newest ≡ Some newest
  past : key.generation ≤ newest
  gone : IsLive s.live key → ⊥

past_made : (s : State) (k key : ContKey) → IsPast s key → Allowed s (Made k)
    → IsPast (after s (Made k)) key × (k ≡ key → ⊥)
past_made s k key p (held, low, free, next, fits) =
    by_eq k.index key.index (λ t. IsPast (after s (Made k)) key × (k ≡ key → ⊥))
    (λ e.
    let was : generation_at k.index s.newest ≡ Some p.newest = ap (λ i. generation_at i s.newest) e ∙ p.there
    in
    let q = p.past in
    let g : k.generation ≡ p.newest + 1 = next ∙ ap (λ o. unwrap_or o 0 + 1) was in
    let other : k ≡ key → ⊥ = λ same. let h = ap (λ x. x.generation) same in omega arith in (
      record {
        newest = k.generation;
        there = generation_with key.index k s.newest ∙ cond-true (eqb k.index key.index) (Some k.generation)
            (generation_at key.index s.newest) (eq-eqb _ _ e);
        past = omega arith;
        gone = λ l. elim (made_before s.live k key free l) [ inl b ↦ p.gone b | inr same ↦ other same ];
      },
      other,
    ))
    (λ f.
    let other : k ≡ key → ⊥ = λ same. f (ap (λ x. x.index) same) in (
      record {
        newest = p.newest;
        there = generation_with key.index k s.newest ∙ cond-false (eqb k.index key.index) (Some k.generation)
            (generation_at key.index s.newest) (ne_eqb _ _ f) ∙ p.there;
        past = p.past;
        gone = λ l. elim (made_before s.live k key free l) [ inl b ↦ p.gone b | inr same ↦ other same ];
      },
      other,
    ))

stays_past : (s : State) (es : List Entry) (key : ContKey) → IsValid s → IsLawful s es → IsPast s key
    → (IsLive (replay s es).live key → ⊥) × NotMade key es
stays_past s [] key v h p = (p.gone, tt)
stays_past s (Made k ∷ es) key v (a, rest) p =
    let m = past_made s k key p a in
    let r = stays_past (after s (Made k)) es key (valid_after s (Made k) v a) rest m.0 in
    (r.0, (m.1, r.1))
stays_past s (Destroyed k ∷ es) key v (a, rest) p =
    let q : IsPast (after s (Destroyed k)) key = record {
      newest = p.newest;
      there = p.there;
      past = p.past;
      gone = λ l. p.gone
          ((live_before s.newest s.live k key v.newest l).0);
    } in
    stays_past (after s (Destroyed k)) es key (valid_after s (Destroyed k) v a) rest q
stays_past s (e ∷ es) key v (a, rest) p =
    let q : IsPast (after s e) key = record {
      newest = p.newest;
      there = p.there;
      past = p.past;
      gone = p.gone;
    } in
    stays_past (after s e) es key (valid_after s e v a) rest q

pub never_again_lem : NeverAgain
never_again_lem base before rest key v h =
    let front = lawful_front base before (Destroyed key ∷ rest) h in
    let back = lawful_back base before (Destroyed key ∷ rest) h in
    let s = replay base before in
    let vs = valid_replay base before v front in
    let gone : generation_at key.index (without_index key.index s.live) ≡ None = generation_gone s.newest
    key.index s.live vs.newest in
    let p : IsPast (after s (Destroyed key)) key = record {
      newest = key.generation;
      there = newest_of_live s.newest s.live key.index key.generation vs.newest back.0.1;
      past = omega arith;
      gone = λ l. cc;
    } in
    let r = stays_past (after s (Destroyed key)) rest key (valid_after s (Destroyed key) vs back.0) back.1 p
    in
    (subst (λ t. IsLive t.live key → ⊥) (sym (replay-append base before (Destroyed key ∷ rest))) r.0, r.1)
