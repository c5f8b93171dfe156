-- The events of a key that is destroyed go one by one.
use Rattle.std.proofs.Common.{◌≡◌, ℕ, ◌+◌, ◌≤◌, true, List, [], ◌∷◌, ◌++◌, length, refl, sym, ap, subst, ◌∙◌, append_assoc, append-nil, arith}
use Rattle.ts_journal.specs.declared.entry.ContKey.{ContKey}
use Rattle.ts_journal.specs.declared.entry.Entry.TheVariants.{Dropped}
use Rattle.ts_journal.specs.State.{State, numbers_of, others_of, without}
use Rattle.ts_journal.specs.Machine.{IsValid, after}
use Rattle.ts_journal.specs.Log.{Log, Extends}
use Rattle.ts_journal.proofs.Events.{length_without}
use Rattle.ts_journal.proofs.Lookups.{first_of, FirstOf, others_all}
use Rattle.ts_journal.proofs.Extends.{extends_none, extends_trans}
use Rattle.ts_group.specs.Entries.{drops}
use Rattle.ts_group.specs.Acts.{Drops}

-- so far these events of the key were dropped
pub record Dropping (start now : Log) (key : ContKey) : Type 0 where
  pub dropped : List ℕ
  pub numbers : numbers_of key start.state.pending ≡ dropped ++ numbers_of key now.state.pending
  pub by : Extends start now (drops dropped)
  pub others : others_of key now.state.pending ≡ others_of key start.state.pending
  pub next : now.state.next ≡ start.state.next
  pub live : now.state.live ≡ start.state.live
  pub held : now.state.held ≡ true
  pub room : start.room + length now.state.pending ≤ now.room + length start.state.pending
  pub valid : IsValid now.state

drops_append : (ns ms : List ℕ) → drops (ns ++ ms) ≡ drops ns ++ drops ms
drops_append [] ms = refl
drops_append (n ∷ ns) ms = ap (λ es. Dropped n ∷ es) (drops_append ns ms)

pub dropping_none : (now : Log) (key : ContKey) → now.state.held ≡ true → IsValid now.state
    → Dropping now now key
dropping_none now key h v = record {
  dropped = [];
  numbers = refl;
  by = extends_none now now (record { base = refl; entries = refl; state = refl });
  others = refl;
  next = refl;
  live = refl;
  held = h;
  room = omega arith;
  valid = v;
}

pub first_there : (s : State) (key : ContKey) (n : ℕ) (ns : List ℕ) → IsValid s
    → numbers_of key s.pending ≡ n ∷ ns → FirstOf key s.pending n ns
first_there s key n ns v e = first_of key 0 s.pending s.next n ns v.rises e

pub dropping_more : (start a b : Log) (key : ContKey) (n : ℕ) (ns : List ℕ) → Dropping start a key
    → numbers_of key a.state.pending ≡ n ∷ ns → Extends a b (Dropped n ∷ [])
    → b.state ≡ after a.state (Dropped n) → a.room ≤ b.room + 1 → IsValid b.state → Dropping start b key
dropping_more start a b key n ns d e x s room v =
    let f = first_there a.state key n ns d.valid e in
    let ps : b.state.pending ≡ without n a.state.pending = ap (λ (t : State). t.pending) s in
    let rest : numbers_of key b.state.pending ≡ ns = ap (numbers_of key) ps ∙ f.rest in
    let l : length b.state.pending + 1 ≡ length a.state.pending = ap (λ qs. length qs + 1) ps ∙ length_without
    n a.state.pending f.event f.there in
    record {
      dropped = d.dropped ++ n ∷ [];
      numbers = d.numbers ∙ ap (λ ms. d.dropped ++ ms) (e ∙ ap (λ ms. n ∷ ms) (sym rest)) ∙ sym
          (append_assoc d.dropped (n ∷ []) (numbers_of key b.state.pending));
      by = subst (λ es. Extends start b es) (sym (drops_append d.dropped (n ∷ []))) (extends_trans d.by x);
      others = ap (others_of key) ps ∙ f.others ∙ d.others;
      next = ap (λ (t : State). t.next) s ∙ d.next;
      live = ap (λ (t : State). t.live) s ∙ d.live;
      held = ap (λ (t : State). t.held) s ∙ d.held;
      room = let r = d.room in omega arith;
      valid = v;
    }

-- once no event of the key is left
pub dropping_all : (start now : Log) (key : ContKey) → Dropping start now key
    → numbers_of key now.state.pending ≡ [] → Drops start now key
dropping_all start now key d e =
    let all : d.dropped ≡ numbers_of key start.state.pending = sym
    (d.numbers ∙ ap (λ ms. d.dropped ++ ms) e ∙ append-nil d.dropped) in
    record {
      by = subst (λ ns. Extends start now (drops ns)) all d.by;
      none = e;
      others = sym (others_all key now.state.pending e) ∙ d.others;
      next = d.next;
      live = d.live;
      held = d.held;
    }
