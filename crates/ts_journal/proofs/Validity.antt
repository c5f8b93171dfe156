-- A lawful journal keeps what holds of a state.
use Rattle.std.proofs.Common.{◌≡◌, ℕ, ◌+◌, ◌<◌, ◌≤◌, inl, inr, List, [], ◌∷◌, ◌++◌, Some, length, refl, sym, ap, subst, ◌∙◌, arith}
use Rattle.std.proofs.lemmas.List.{length_push}
use Rattle.ts_journal.specs.declared.entry.TheConstants.{MOST_KEYS}
use Rattle.ts_journal.specs.declared.entry.ContKey.{ContKey}
use Rattle.ts_journal.specs.declared.entry.Pending.{Pending}
use Rattle.ts_journal.specs.declared.entry.Entry.{Entry}
use Rattle.ts_journal.specs.declared.entry.Entry.TheVariants.{Took, Gave, Made, Set, Handled, Cancelled, Dropped, Destroyed}
use Rattle.ts_journal.specs.State.{State, fresh, fresh_with, pending_at}
use Rattle.ts_journal.specs.Machine.{Allowed, MayBelong, after, IsLawful, replay, IsValid, HasLived, IsReached, Balances}
use Rattle.ts_journal.proofs.Keys.{newest_more, newest_less}
use Rattle.ts_journal.proofs.Lawful.{replay-append, lawful_append, lawful_push}
use Rattle.ts_journal.proofs.Events.{rises_push, rises_without, length_without, alive_less, alive_push, alive_more, alive_destroyed, begun_push, begun_without}

-- what closes an event keeps the sum of the counts
balance_closed : (s : State) (n : ℕ) (p : Pending) (handled cancelled dropped k : ℕ) → Balances s
    → pending_at n s.pending ≡ Some p → k + 1 ≡ length s.pending
    → handled + cancelled + dropped ≡ s.handled_count + s.cancelled_count + s.dropped_count + 1
    → s.set_count ≡ handled + cancelled + dropped + k
balance_closed s n p handled cancelled dropped k b h l c = omega arith

pub balance_after : (s : State) (e : Entry) → Balances s → Allowed s e → Balances (after s e)
balance_after s (Took turn seat) b a = b
balance_after s (Gave turn) b a = b
balance_after s (Made key) b a = b
balance_after s (Set number key event due series period) b a = let l = length_push s.pending
    (record { number = number; key = key; event = event; due = due; series = series; period = period }) in
    omega arith
balance_after s (Handled number moment) b (held, p, there, due) = let l = length_without number s.pending p
    there in omega arith
balance_after s (Cancelled number) b (held, p, there) = let l = length_without number s.pending p there in
    omega arith
balance_after s (Dropped number) b (held, p, there) = let l = length_without number s.pending p there in omega
    arith
balance_after s (Destroyed key) b a = b

series_before : (s : State) (key : ContKey) (series period number : ℕ)
    → MayBelong s (record { key = key; series = series; period = period }) number → series ≤ number
series_before s key series period number (inl e) = omega arith
series_before s key series period number (inr (l, rest, more)) = omega arith

pub valid_after : (s : State) (e : Entry) → IsValid s → Allowed s e → IsValid (after s e)
valid_after s (Took turn seat) v a = record {
  rises = v.rises;
  alive = v.alive;
  newest = v.newest;
  begun =
      v.begun;
  counts = v.counts;
  few = v.few;
  fits = v.fits;
}
valid_after s (Gave turn) v a = record {
  rises = v.rises;
  alive = v.alive;
  newest = v.newest;
  begun = v.begun;
  counts = v.counts;
  few = v.few;
  fits = v.fits;
}
valid_after s (Made key) v (held, low, free, next, fits) = record {
  rises = v.rises;
  alive = alive_more s.live key s.pending v.alive;
  newest = newest_more s.newest s.live key low free v.newest;
  begun = v.begun;
  counts = v.counts;
  few = v.few;
  fits = v.fits;
}
valid_after s (Set number key event due series period) v a =
    let p : Pending =
    record { number = number; key = key; event = event; due = due; series = series; period = period } in
    record {
      rises = rises_push 0 s.pending s.next p a.1 v.rises;
      alive = alive_push s.live s.pending p v.alive a.3;
      newest = v.newest;
      begun = begun_push s.pending p v.begun (series_before s key series period number a.4);
      counts = balance_after s (Set number key event due series period) v.counts a;
      few = let f = v.few in omega arith;
      fits = let n = a.1 in let m = a.2 in omega arith;
    }
valid_after s (Handled number moment) v a = record {
  rises = rises_without number 0 s.pending s.next v.rises;
  alive = alive_less s.live number s.pending v.alive;
  newest = v.newest;
  begun = begun_without number s.pending v.begun;
  counts = balance_after s (Handled number moment) v.counts a;
  few = v.few;
  fits = v.fits;
}
valid_after s (Cancelled number) v a = record {
  rises = rises_without number 0 s.pending s.next v.rises;
  alive = alive_less s.live number s.pending v.alive;
  newest = v.newest;
  begun = begun_without number s.pending v.begun;
  counts = balance_after s (Cancelled number) v.counts a;
  few = v.few;
  fits = v.fits;
}
valid_after s (Dropped number) v a = record {
  rises = rises_without number 0 s.pending s.next v.rises;
  alive = alive_less s.live number s.pending v.alive;
  newest = v.newest;
  begun = begun_without number s.pending v.begun;
  counts = balance_after s (Dropped number) v.counts a;
  few = v.few;
  fits = v.fits;
}
valid_after s (Destroyed key) v (held, live, none) = record {
  rises = v.rises;
  alive = alive_destroyed s.live key s.pending live none v.alive;
  newest = newest_less s.newest s.live key.index v.newest;
  begun = v.begun;
  counts = v.counts;
  few = v.few;
  fits = v.fits;
}

pub valid_replay : (s : State) (es : List Entry) → IsValid s → IsLawful s es → IsValid (replay s es)
valid_replay s [] v h = v
valid_replay s (e ∷ es) v (a, b) = valid_replay (after s e) es (valid_after s e v a) b

pub valid_fresh : (turns : ℕ) → IsValid (fresh turns)
valid_fresh turns = record {
  rises = omega arith;
  alive = tt;
  newest = tt;
  begun = tt;
  counts = refl;
  few =
      omega arith;
  fits = omega arith;
}

pub valid_fresh_with : (turns : ℕ) (key : ContKey) → key.index < MOST_KEYS → IsValid (fresh_with turns key)
valid_fresh_with turns key low = record {
  rises = omega arith;
  alive = tt;
  newest = grind (arith);
  begun = tt;
  counts = refl;
  few = omega arith;
  fits = omega arith;
}

pub reached_fresh : (base s : State) (turns : ℕ) → base ≡ fresh turns → s ≡ fresh turns → IsReached base [] s
reached_fresh base s turns b e =
    let v = valid_fresh turns in
    record {
      lawful = tt;
      state = e ∙ sym b;
      valid_base = subst (λ x. IsValid x) (sym b) v;
      valid = subst
          (λ x. IsValid x) (sym e) v;
    }

pub reached_with : (base s : State) (turns : ℕ) (key : ContKey) → key.index < MOST_KEYS
    → base ≡ fresh_with turns key → s ≡ fresh_with turns key → IsReached base [] s
reached_with base s turns key low b e =
    let v = valid_fresh_with turns key low in
    record {
      lawful = tt;
      state = e ∙ sym b;
      valid_base = subst (λ x. IsValid x) (sym b) v;
      valid = subst
          (λ x. IsValid x) (sym e) v;
    }

-- one entry more
pub reached_push : (base : State) (es fs : List Entry) (e : Entry) (s t : State) → IsReached base es s
    → Allowed s e → fs ≡ es ++ e ∷ [] → t ≡ after s e → IsReached base fs t
reached_push base es fs e s t r a f g =
    let at_end : Allowed (replay base es) e = subst (λ x. Allowed x e) r.state a in
    record {
      lawful = subst (λ x. IsLawful base x) (sym f) (lawful_push base es e r.lawful at_end);
      state = g ∙ ap (λ x. after x e) r.state ∙ sym (replay-append base es (e ∷ [])) ∙ ap (λ x. replay base x)
          (sym f);
      valid_base = r.valid_base;
      valid = subst (λ x. IsValid x) (sym g) (valid_after s e r.valid a);
    }

-- ---- a whole life

pub lived_fresh : (s : State) (turns : ℕ) → s ≡ fresh turns → HasLived turns s
lived_fresh s turns e = record { beginning = s; is_beginning = inl e; life = []; lawful = tt; state = refl }

pub lived_with : (s : State) (turns : ℕ) (key : ContKey) → s ≡ fresh_with turns key → HasLived turns s
lived_with s turns key e = record {
  beginning = s;
  is_beginning = inr (key, e);
  life = [];
  lawful = tt;
  state = refl;
}

-- what lawful entries lead to has lived too
pub lived_on : (made : ℕ) (base s : State) (es : List Entry) → HasLived made base → IsReached base es s
    → HasLived made s
lived_on made base s es h r = record {
  beginning = h.beginning;
  is_beginning = h.is_beginning;
  life = h.life ++ es;
  lawful = lawful_append h.beginning h.life es h.lawful (subst (λ x. IsLawful x es) h.state r.lawful);
  state = r.state ∙ ap (λ x. replay x es) h.state ∙ sym (replay-append h.beginning h.life es);
}
