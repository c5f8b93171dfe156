-- What one entry leaves of the state.
use Rattle.std.proofs.Common.{◌≡◌, ℕ, ◌+◌, ◌<◌, ◌≤◌, inl, inr, cond, eqb, List, [], ◌∷◌, ◌++◌, Some, None, length, refl, sym, ap, subst, ◌∙◌, arith}
use Rattle.std.proofs.lemmas.Bool.{cases_eq}
use Rattle.std.proofs.lemmas.List.{length_push}
use Rattle.ts_journal.specs.declared.entry.ContKey.{ContKey}
use Rattle.ts_journal.specs.declared.entry.Pending.{Pending}
use Rattle.ts_journal.specs.declared.entry.Entry.TheVariants.{Set, Handled}
use Rattle.ts_journal.specs.State.{State, pending_at, without, same_key, others_of}
use Rattle.ts_journal.specs.Machine.{IsValid, after}
use Rattle.ts_journal.proofs.Cases.{split, by_eq}
use Rattle.ts_journal.proofs.Events.{length_without, is_known}
use Rattle.ts_journal.proofs.Lookups.{pending_above, pending_added, pending_more, pending_other, pending_gone, pending_without}
use Rattle.ts_group.specs.Context.{AllPlain, IsCall, AllCalls}
use Rattle.ts_group.specs.Changes.{CallsStay, IsMore, IsLess, HasSet, HasClosed, HasHandled}

-- Plain events.
pub plain_push : (ps : List Pending) (p : Pending) → AllPlain ps → p.period ≡ 0 → AllPlain (ps ++ p ∷ [])
plain_push [] p h e = (e, tt)
plain_push (q ∷ ps) p (a, b) e = (a, plain_push ps p b e)

pub plain_without : (n : ℕ) (ps : List Pending) → AllPlain ps → AllPlain (without n ps)
plain_without n [] h = tt
plain_without n (p ∷ ps) (a, b) = split (eqb p.number n) (λ t. AllPlain (cond t ps (p ∷ without n ps)))
    (λ e. b) (λ e. (a, plain_without n ps b))

pub plain_others : (key : ContKey) (ps : List Pending) → AllPlain ps → AllPlain (others_of key ps)
plain_others key [] h = tt
plain_others key (p ∷ ps) (a, b) = split (same_key p.key key)
    (λ t. AllPlain (cond t (others_of key ps) (p ∷ others_of key ps))) (λ e. plain_others key ps b)
    (λ e. (a, plain_others key ps b))

pub plain_at : (n : ℕ) (ps : List Pending) (p : Pending) → AllPlain ps → pending_at n ps ≡ Some p
    → p.period ≡ 0
plain_at n [] p h e = absurd (cc)
plain_at n (q ∷ ps) p (a, b) e =
    split (eqb q.number n) (λ t. cond t (Some q) (pending_at n ps) ≡ Some p → p.period ≡ 0)
    (λ t x. let same : q ≡ p = cc in ap (λ v. v.period) (sym same) ∙ a)
    (λ t x. plain_at n ps p b x) e

-- One event more.
pub more_set : (a b : State) (p : Pending) → b.pending ≡ a.pending ++ p ∷ [] → b.next ≡ a.next + 1
    → IsMore a b
more_set a b p e m = record {
  stays = λ n q h. ap (pending_at n) e ∙ pending_more n a.pending (p ∷ []) q h;
  next = omega arith;
  count = let l : length b.pending ≡ length (a.pending ++ p ∷ []) = ap length e in let k = length_push
      a.pending p in omega arith;
}

pub has_set : (a b : State) (p : Pending) → IsValid a → p.number ≡ a.next → b.pending ≡ a.pending ++ p ∷ []
    → b.next ≡ a.next + 1 → b.live ≡ a.live → HasSet a b p
has_set a b p v n e m l =
    let none : pending_at p.number a.pending ≡ None = pending_above p.number 0 a.pending a.next v.rises
    (omega arith) in
    record {
      number = n;
      there = ap (pending_at p.number) e ∙ pending_added p.number a.pending p refl none;
      others = λ k ne. ap (pending_at k) e ∙ pending_other k a.pending p ne;
      next = m;
      count = ap length e ∙ length_push a.pending p;
      more = more_set a b p e m;
      plain = λ z h. subst (λ ps. AllPlain ps) (sym e) (plain_push a.pending p h z);
      live = l;
    }

pub more_none : (a b : State) → b ≡ a → IsMore a b
more_none a b e = record {
  stays = λ n q h. ap (λ s. pending_at n s.pending) e ∙ h;
  next = let m : b.next ≡ a.next = ap (λ s. s.next) e in omega arith;
  count = let m : length b.pending ≡ length a.pending = ap (λ s. length s.pending) e in omega arith;
}

-- Direct calls that wait.
stay_by : (old new : State) → ((moment n : ℕ) → IsCall old moment n → IsCall new moment n)
    → (moment : ℕ) (ns : List ℕ) → AllCalls old moment ns → AllCalls new moment ns
stay_by old new f moment [] h = tt
stay_by old new f moment (n ∷ ns) (a, b) = (f moment n a, stay_by old new f moment ns b)

pub stay_same : (a b : State) → b.pending ≡ a.pending → a.next ≤ b.next → CallsStay a b
stay_same a b e l = record {
  stay = stay_by a b (λ moment n c. record {
    below = let x = c.below in omega arith;
    ready = λ p h. c.ready p
        (ap (pending_at n) (sym e) ∙ h);
  });
}

pub stay_less : (a b : State) → IsLess a b → CallsStay a b
stay_less a b l = record {
  stay = stay_by a b (λ moment n c. record {
    below = let x = c.below in let e = l.next in omega arith;
    ready =
        λ p h. c.ready p (l.from n p h);
  });
}

pub stay_set : (a b : State) (p : Pending) → HasSet a b p → CallsStay a b
stay_set a b p s = record {
  stay = stay_by a b (λ moment n c.
      let x = c.below in
      let e = s.next in
      let m = s.number in
      let ne : n ≡ p.number → ⊥ = λ q. omega arith in
      record { below = omega arith; ready = λ q h. c.ready q (sym (s.others n ne) ∙ h) });
}

pub stay_handled : (a b : State) (p : Pending) → a.next ≤ b.next → HasHandled a b p → CallsStay a b
stay_handled a b p l s = record {
  stay = stay_by a b (λ moment n c. record {
    below = let x = c.below in omega arith;
    ready = λ q h. c.ready q
        (s.from n q c.below h);
  });
}

pub calls_more : (s : State) (moment n : ℕ) (ns : List ℕ) → AllCalls s moment ns → IsCall s moment n
    → AllCalls s moment (ns ++ n ∷ [])
calls_more s moment n [] h c = (c, tt)
calls_more s moment n (m ∷ ns) (a, b) c = (a, calls_more s moment n ns b c)

pub is_call : (s : State) (moment n : ℕ) (q : Pending) → pending_at n s.pending ≡ Some q → q.due ≤ moment
    → q.period ≡ 0 → n < s.next → IsCall s moment n
is_call s moment n q there due plain below = record {
  below = below;
  ready = λ p h. let same : q ≡ p = cc in (
    subst (λ v. v.due ≤ moment) same due,
    subst (λ v. v.period ≡ 0)
        same plain,
  );
}

-- One event less.
pub has_closed : (a b : State) (n : ℕ) (p : Pending) → IsValid a → pending_at n a.pending ≡ Some p
    → b.pending ≡ without n a.pending → b.next ≡ a.next → b.live ≡ a.live → HasClosed a b n
has_closed a b n p v there e m l = record {
  pending = e;
  gone = ap (pending_at n) e ∙ pending_gone n 0 a.pending a.next v.rises;
  others = λ k ne. ap (pending_at k) e ∙ pending_without k n a.pending ne;
  next = m;
  live = l;
  count = ap (λ ps. length ps + 1) e ∙ length_without n a.pending p there;
}

-- what is found after an event was closed was there before
pub from_without : (n m low : ℕ) (ps : List Pending) (p : Pending) → pending_at n (without n ps) ≡ None
    → pending_at m (without n ps) ≡ Some p → pending_at m ps ≡ Some p
from_without n m low ps p gone h =
    elim (cases_eq m n) [
      | inl e ↦ let same : pending_at n (without n ps) ≡ Some p = ap (λ k. pending_at k (without n ps))
          (sym e) ∙ h in absurd (cc)
      | inr ne ↦ sym (pending_without m n ps ne) ∙ h
    ]

pub less_closed : (a b : State) (n : ℕ) → HasClosed a b n → IsLess a b
less_closed a b n c =
    let gone : pending_at n (without n a.pending) ≡ None = ap (pending_at n) (sym c.pending) ∙ c.gone in
    record {
      from = λ m p h. from_without n m 0 a.pending p gone (ap (pending_at m) (sym c.pending) ∙ h);
      next = c.next;
      plain = λ h. subst (λ ps. AllPlain ps) (sym c.pending) (plain_without n a.pending h);
      count = let k = c.count in omega arith;
    }

pub less_none : (a b : State) → b ≡ a → IsLess a b
less_none a b e = record {
  from = λ n p h. ap (λ s. pending_at n s.pending) (sym e) ∙ h;
  next = ap (λ s. s.next) e;
  plain = λ h. subst (λ (s : State). AllPlain s.pending) (sym e) h;
  count = let k : length b.pending ≡ length a.pending = ap (λ s. length s.pending) e in omega arith;
}

-- An event that is handled.
pub handled_plain : (a b : State) (p : Pending) (moment : ℕ) → IsValid a
    → pending_at p.number a.pending ≡ Some p → b ≡ after a (Handled p.number moment) → HasHandled a b p
handled_plain a b p moment v there e =
    let ps : b.pending ≡ without p.number a.pending = ap (λ s. s.pending) e in
    let next : b.next ≡ a.next = ap (λ s. s.next) e in
    let live : b.live ≡ a.live = ap (λ s. s.live) e in
    let c = has_closed a b p.number p v there ps next live in
    let l = less_closed a b p.number c in
    record {
      gone = c.gone;
      from = λ n q below h. l.from n q h;
      stays = λ n q ne h. c.others n ne ∙ h;
      others = λ z n ne. c.others n ne;
      pending = λ z. ps;
      count = λ z. c.count;
      next = λ z. next;
      plain = l.plain;
      fewer = λ z. c.count;
      next_most = omega arith;
      count_most = l.count;
      live = live;
    }

pub handled_again : (a m b : State) (p : Pending) (moment : ℕ) (r : Pending) → (0 < p.period) → IsValid a
    → IsValid m → pending_at p.number a.pending ≡ Some p → r.number ≡ a.next
    → m ≡ after a (Handled p.number moment) → b ≡ after m (Set r.number r.key r.event r.due r.series r.period)
    → HasHandled a b p
handled_again a m b p moment r again v w there n e f =
    let h = handled_plain a m p moment v there e in
    let ps : b.pending ≡ m.pending ++ r ∷ [] = ap (λ s. s.pending) f in
    let mnext : m.next ≡ a.next = ap (λ s. s.next) e in
    let next : b.next ≡ m.next + 1 = ap (λ s. s.next) f in
    let live : b.live ≡ m.live = ap (λ s. s.live) f in
    let s = has_set m b r w (n ∙ sym mnext) ps next live in
    let closed = length_without p.number a.pending p there in
    let count : length m.pending + 1 ≡ length a.pending = ap (λ t. length t.pending + 1) e ∙ closed in
    let below = (is_known a p.number p v there).below in
    let other : p.number ≡ r.number → ⊥ = λ q. omega arith in
    let not_plain : AllPlain a.pending → ⊥ = λ q. let z = plain_at p.number a.pending p q there in omega arith
    in
    record {
      gone = s.others p.number other ∙ h.gone;
      from = λ k q lt x. let ne : k ≡ r.number
          → ⊥ = λ y. omega arith in h.from k q lt (sym (s.others k ne) ∙ x);
      stays = λ k q ne x.
          let lt = (is_known a k q v x).below in
          let num = (is_known a k q v x).number in
          let d : k ≡ r.number → ⊥ = λ y. omega arith in
          s.others k d ∙ h.stays k q ne x;
      others = λ z. absurd (omega arith);
      pending = λ z. absurd (omega arith);
      count = λ z. absurd (omega arith);
      next = λ z. absurd (omega arith);
      plain = λ z. absurd (not_plain z);
      fewer = λ z. absurd (not_plain z);
      next_most = omega arith;
      count_most = let k = s.count in omega arith;
      live = live ∙ h.live;
    }

-- what is set and handled at once leaves nothing
without_last : (n : ℕ) (ps : List Pending) (p : Pending) → n ≡ p.number → pending_at n ps ≡ None
    → without n (ps ++ p ∷ []) ≡ ps
without_last n [] p e h = by_eq p.number n (λ t. cond t [] (p ∷ []) ≡ []) (λ x. refl)
    (λ f. absurd (f (sym e)))
without_last n (q ∷ ps) p e h =
    split (eqb q.number n) (λ t. cond t (Some q) (pending_at n ps) ≡ None → cond t (ps ++ p ∷ [])
    (q ∷ without n (ps ++ p ∷ [])) ≡ q ∷ ps)
    (λ t x. absurd (cc)) (λ t x. ap (λ rs. q ∷ rs) (without_last n ps p e x)) h

pub pending_asked : (a m b : State) (p : Pending) (moment : ℕ) → IsValid a → p.number ≡ a.next
    → m ≡ after a (Set p.number p.key p.event p.due p.series p.period) → b ≡ after m (Handled p.number moment)
    → b.pending ≡ a.pending
pending_asked a m b p moment v n e f =
    let none : pending_at p.number a.pending ≡ None = pending_above p.number 0 a.pending a.next v.rises
    (omega arith) in
    ap (λ s. s.pending) f ∙ ap (λ s. without p.number s.pending) e ∙ without_last p.number a.pending p refl
    none
