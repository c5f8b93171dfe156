-- No journal goes back, and what follows what follows a third follows that.
use Rattle.std.proofs.Common.{◌≡◌, ℕ, ◌+◌, ◌<◌, ◌≤◌, inl, inr, cond, eqb, List, [], ◌∷◌, ◌++◌, Some, None, refl, sym, ap, subst, ◌∙◌, arith}
use Rattle.std.specs.Prelude.{unwrap_or}
use Rattle.std.proofs.lemmas.Bool.{ne_eqb, cond-false}
use Rattle.ts_journal.specs.declared.entry.ContKey.{ContKey}
use Rattle.ts_journal.specs.declared.entry.Pending.{Pending}
use Rattle.ts_journal.specs.declared.entry.Entry.{Entry}
use Rattle.ts_journal.specs.declared.entry.Entry.TheVariants.{Took, Gave, Made, Set, Handled, Cancelled, Dropped, Destroyed}
use Rattle.ts_journal.specs.State.{State, pending_at, without, generation_at, with_key, IsLive}
use Rattle.ts_journal.specs.Machine.{Allowed, after, replay, IsValid}
use Rattle.ts_journal.specs.Log.{Log, Extends, GoesOn}
use Rattle.ts_journal.specs.Later.{given_at, IsLater, NeverBack, Follows}
use Rattle.ts_journal.proofs.Cases.{split, by_eq}
use Rattle.ts_journal.proofs.Keys.{generation_with}
use Rattle.ts_journal.proofs.Validity.{valid_after}
use Rattle.ts_journal.proofs.Facts.{made_before, live_before}
use Rattle.ts_journal.proofs.Folding.{goes_on_extends}

pub later_refl : (s : State) → IsLater s s
later_refl s = record {
  turns = omega arith;
  next = omega arith;
  set = omega arith;
  handled = omega arith;
  cancelled = omega arith;
  dropped = omega arith;
  given = λ i. omega arith;
  closed = λ n below gone. gone;
  dead = λ key past gone live. gone live;
}

pub later_trans : (s t u : State) → IsLater s t → IsLater t u → IsLater s u
later_trans s t u a b = record {
  turns = let x = a.turns in let y = b.turns in omega arith;
  next = let x = a.next in let y = b.next in omega arith;
  set = let x = a.set in let y = b.set in omega arith;
  handled = let x = a.handled in let y = b.handled in omega arith;
  cancelled = let x = a.cancelled in let y = b.cancelled in omega arith;
  dropped = let x = a.dropped in let y = b.dropped in omega arith;
  given = λ i. let x = a.given i in let y = b.given i in omega arith;
  closed = λ n below gone. b.closed n (let x = a.next in omega arith) (a.closed n below gone);
  dead = λ key past gone. b.dead key (let x = a.given key.index in omega arith) (a.dead key past gone);
}

-- an event that is set has another number than one that was closed
pending_more : (n : ℕ) (ps : List Pending) (p : Pending) → (p.number ≡ n → ⊥) → pending_at n ps ≡ None
    → pending_at n (ps ++ p ∷ []) ≡ None
pending_more n [] p ne gone = cond-false (eqb p.number n) (Some p) None (ne_eqb p.number n ne)
pending_more n (q ∷ ps) p ne gone =
    split (eqb q.number n) (λ t. cond t (Some q) (pending_at n ps) ≡ None → cond t (Some q)
    (pending_at n (ps ++ p ∷ [])) ≡ None)
    (λ e some. absurd (cc)) (λ e some. pending_more n ps p ne some) gone

-- an event that is closed makes no other one pending
pending_less : (n m : ℕ) (ps : List Pending) → pending_at n ps ≡ None → pending_at n (without m ps) ≡ None
pending_less n m [] gone = refl
pending_less n m (q ∷ ps) gone =
    split (eqb q.number n) (λ t. cond t (Some q) (pending_at n ps) ≡ None → eqb q.number n ≡ t → pending_at n
    (cond (eqb q.number m) ps (q ∷ without m ps)) ≡ None)
    (λ e some _. absurd (cc))
    (λ e none same.
    split (eqb q.number m) (λ t. pending_at n (cond t ps (q ∷ without m ps)) ≡ None)
    (λ _. none)
    (λ _. ap (λ t. cond t (Some q) (pending_at n (without m ps))) same ∙ pending_less n m ps none))
    gone refl

-- an event that is closed, and what does not change then
closes : (s t : State) (m : ℕ) → t.turns ≡ s.turns → t.next ≡ s.next → t.pending ≡ without m s.pending
    → t.live ≡ s.live → t.newest ≡ s.newest
    → t.set_count ≡ s.set_count → s.handled_count ≤ t.handled_count → s.cancelled_count ≤ t.cancelled_count
    → s.dropped_count ≤ t.dropped_count → IsLater s t
closes s t m turns next pending live newest set handled cancelled dropped = record {
  turns = omega arith;
  next = omega arith;
  set = omega arith;
  handled = handled;
  cancelled = cancelled;
  dropped = dropped;
  given = λ i. subst (λ ks. unwrap_or (generation_at i s.newest) 0 ≤ unwrap_or (generation_at i ks) 0)
      (sym newest) (omega arith);
  closed = λ n below gone. ap (pending_at n) pending ∙ pending_less n m s.pending gone;
  dead = λ key past gone is. gone (subst (λ ks. IsLive ks key) live is);
}

-- a step, by what it changes
steps : (s t : State) → s.turns ≤ t.turns → s.next ≤ t.next → s.set_count ≤ t.set_count
    → s.handled_count ≡ t.handled_count → s.cancelled_count ≡ t.cancelled_count
    → s.dropped_count ≡ t.dropped_count
    → ((i : ℕ) → given_at i s ≤ given_at i t)
    → ((n : ℕ) → n < s.next → pending_at n s.pending ≡ None → pending_at n t.pending ≡ None)
    → ((key : ContKey) → key.generation ≤ given_at key.index s → (IsLive s.live key → ⊥) → IsLive t.live key →
    ⊥) → IsLater s t
steps s t turns next set handled cancelled dropped given closed dead = record {
  turns = turns;
  next = next;
  set = set;
  handled = omega arith;
  cancelled = omega arith;
  dropped = omega arith;
  given = given;
  closed = closed;
  dead = dead;
}

-- the new key is the newest of its index
made_given : (s : State) (key : ContKey) (i : ℕ) → key.generation ≡ given_at key.index s + 1
    → unwrap_or (generation_at i s.newest) 0 ≤ unwrap_or (generation_at i (with_key key s.newest)) 0
made_given s key i next =
    by_eq key.index i (λ t. generation_at i (with_key key s.newest) ≡ cond t (Some key.generation)
    (generation_at i s.newest) → unwrap_or (generation_at i s.newest) 0 ≤ unwrap_or
    (generation_at i (with_key key s.newest)) 0)
    (λ e is. let g : unwrap_or (generation_at i (with_key key s.newest)) 0 ≡ key.generation = ap
    (λ o. unwrap_or o 0) is in let h : given_at key.index s ≡ given_at i s = ap (λ j. given_at j s) e in
    omega arith)
    (λ f is. let g : unwrap_or (generation_at i (with_key key s.newest)) 0 ≡ unwrap_or
    (generation_at i s.newest) 0 = ap (λ o. unwrap_or o 0) is in omega arith)
    (generation_with i key s.newest)

pub later_after : (s : State) (e : Entry) → IsValid s → Allowed s e → IsLater s (after s e)
later_after s (Took turn seat) v a =
    steps s (after s (Took turn seat)) (let t = a.1 in omega arith) (omega arith) (omega arith) refl refl refl
    (λ i. omega arith) (λ n below gone. gone) (λ k past gone live. gone live)
later_after s (Gave turn) v a =
    steps s (after s (Gave turn)) (omega arith) (omega arith) (omega arith) refl refl refl (λ i. omega arith)
    (λ n below gone. gone) (λ k past gone live. gone live)
later_after s (Set number key event due series period) v a =
    steps s (after s (Set number key event due series period)) (omega arith) (omega arith) (omega arith) refl
    refl refl (λ i. omega arith)
    (λ n below gone. pending_more n s.pending _ (λ e. let t = a.1 in omega arith) gone)
    (λ k past gone live. gone live)
later_after s (Handled number moment) v a = closes s (after s (Handled number moment)) number refl refl refl
    refl refl refl (omega arith) (omega arith) (omega arith)
later_after s (Cancelled number) v a = closes s (after s (Cancelled number)) number refl refl refl refl refl
    refl (omega arith) (omega arith) (omega arith)
later_after s (Dropped number) v a = closes s (after s (Dropped number)) number refl refl refl refl refl refl
    (omega arith) (omega arith) (omega arith)
later_after s (Destroyed key) v a =
    steps s (after s (Destroyed key)) (omega arith) (omega arith) (omega arith) refl refl refl
    (λ i. omega arith) (λ n below gone. gone)
    (λ k past gone live. gone (live_before s.newest s.live key k v.newest live).0)
later_after s (Made key) v (held, low, free, next, fits) =
    steps s (after s (Made key)) (omega arith) (omega arith) (omega arith) refl refl refl
    (λ i. made_given s key i next) (λ n below gone. gone)
    (λ k past gone live. elim (made_before s.live key k free live) [
      | inl before ↦ gone before
      | inr same ↦ let g : key.generation ≡ k.generation = ap (λ q. q.generation) same in let h : given_at
          key.index s ≡ given_at k.index s = ap (λ (q : ContKey). given_at q.index s) same in absurd
          (omega arith)
    ])

pub never_back_lem : NeverBack
never_back_lem base [] v h = later_refl base
never_back_lem base (e ∷ es) v (a, rest) =
    later_trans base (after base e) (replay (after base e) es) (later_after base e v a)
    (never_back_lem (after base e) es (valid_after base e v a) rest)

pub follows_refl : (t : ℕ × State) → Follows t t
follows_refl t = inr (refl, later_refl t.1)

pub follows_trans : (t u v : ℕ × State) → Follows t u → Follows u v → Follows t v
follows_trans t u v a b = elim a [
  | inl made ↦ elim b [ inl made' ↦ inl (omega arith) | inr same ↦ let s = same.0 in inl (omega arith) ]
  | inr same ↦ elim b [
    | inl made ↦ let s = same.0 in inl (omega arith)
    | inr same' ↦ inr (same.0 ∙ same'.0, later_trans v.1 u.1 t.1 same'.1 same.1)
  ]
]

-- a journal that goes on follows, and one that is folded then
pub goes_on_later : (old new : Log) (added : List Entry) → IsValid old.state → GoesOn old new added
    → IsLater old.state new.state
goes_on_later old new added v h = subst (IsLater old.state) (sym h.state)
    (never_back_lem old.state added v h.lawful)

pub goes_on_follows : (old new : Log) (added : List Entry) → IsValid old.state → GoesOn old new added
    → Follows (new.base.made, new.state) (old.base.made, old.state)
goes_on_follows old new added v h = inr (h.made, goes_on_later old new added v h)

pub extends_later : (old new : Log) (added : List Entry) → IsValid old.state → Extends old new added
    → IsLater old.state new.state
extends_later old new added v e = goes_on_later old new added v (goes_on_extends old new added e)

pub extends_follows : (old new : Log) (added : List Entry) → IsValid old.state → Extends old new added
    → Follows (new.base.made, new.state) (old.base.made, old.state)
extends_follows old new added v e = goes_on_follows old new added v (goes_on_extends old new added e)
