-- Entries of a handler's own calls, one after the other.
use Rattle.std.proofs.Common.{◌≡◌, ℕ, ◌<◌, ◌≤◌, List, [], ◌∷◌, ◌++◌, Some, drop, length, refl, sym, ap, subst, ◌∙◌, append_assoc, append-nil}
use Rattle.std.proofs.lemmas.List.{drop-append-le}
use Rattle.ts_journal.specs.declared.entry.Entry.{Entry}
use Rattle.ts_journal.specs.declared.entry.Entry.TheVariants.{Set}
use Rattle.ts_journal.specs.declared.entry.ContKey.{ContKey}
use Rattle.ts_journal.specs.declared.entry.Event.{Event}
use Rattle.ts_journal.specs.Log.{Log, Extends, IsSameLog}
use Rattle.ts_journal.proofs.Extends.{extends_none, extends_trans}
use Rattle.ts_journal.specs.declared.entry.Pending.{Pending}
use Rattle.ts_journal.specs.State.{State, pending_at}
use Rattle.ts_group.specs.Context.{Context, IsSame, AllCalls}
use Rattle.ts_group.specs.Entries.{IsOwn, AllOwn, AreCalls, GrowsLog, GrowsCalls, Grows, drops}
use Rattle.ts_group.specs.Changes.{CallsStay}
use Rattle.ts_group.proofs.Facts.{calls_more, is_call, more_none, stay_same}

pub own_append : (es fs : List Entry) → AllOwn es → AllOwn fs → AllOwn (es ++ fs)
own_append [] fs h k = k
own_append (e ∷ es) fs (a, b) k = (a, own_append es fs b k)

pub own_drops : (ns : List ℕ) (fs : List Entry) → AllOwn fs → AllOwn (drops ns ++ fs)
own_drops [] fs h = h
own_drops (n ∷ ns) fs h = (tt, own_drops ns fs h)

pub log_none : (a b : Log) → IsSameLog a b → GrowsLog a b
log_none a b h = record { own = []; by = extends_none a b h; all_own = tt }

pub log_one : (a b : Log) (e : Entry) → Extends a b (e ∷ []) → IsOwn e → GrowsLog a b
log_one a b e h o = record { own = e ∷ []; by = h; all_own = (o, tt) }

-- calls among entries are calls among more entries
pub calls_before : (moment : ℕ) (ns : List ℕ) (es fs : List Entry) → AreCalls moment ns fs
    → AreCalls moment ns (es ++ fs)
calls_before moment [] es fs h = tt
calls_before moment (n ∷ ns) es fs (before, after, key, event, e, rest) = (
  es ++ before,
  after,
  key,
  event,
  ap (λ xs. es ++ xs) e ∙ sym
      (append_assoc es before (Set n key event moment n 0 ∷ after)),
  rest,
)

pub calls_append : (moment : ℕ) (ns ms : List ℕ) (es fs : List Entry) → AreCalls moment ns es
    → AreCalls moment ms fs → AreCalls moment (ns ++ ms) (es ++ fs)
calls_append moment [] ms es fs h k = calls_before moment ms es fs k
calls_append moment (n ∷ ns) ms es fs (before, after, key, event, e, rest) k = (
  before,
  after ++ fs,
  key,
  event,
  ap (λ xs. xs ++ fs) e ∙ append_assoc before
      (Set n key event moment n 0 ∷ after) fs,
  calls_append moment ns ms after fs rest k,
)

-- the same context goes on by nothing
pub grows_same : (a b : Context) → IsSame a b → Grows a b
grows_same a b h = record {
  log = record {
    own = [];
    by = extends_none a.log b.log h.log;
    all_own = tt;
    asked = [];
    calls = h.calls ∙
        sym (append-nil a.calls);
    are_calls = tt;
  };
  moment = h.moment;
  running = h.running;
  role = h.role;
  news_from = h.news_from;
}

pub grows_refl : (a : Context) → Grows a a
grows_refl a = grows_same a a (record {
  log = record { base = refl; entries = refl; state = refl };
  roles =
      refl;
  moment = refl;
  running = refl;
  role = refl;
  news_from = refl;
  calls = refl;
})

-- a journal that goes on by own entries, with no direct call
pub grows_log : (a b : Context) → GrowsLog a.log b.log → b.calls ≡ a.calls → b.moment ≡ a.moment
    → b.running ≡ a.running → b.role ≡ a.role → b.news_from ≡ a.news_from → Grows a b
grows_log a b h c m k r t = record {
  log = record {
    own = h.own;
    by = h.by;
    all_own = h.all_own;
    asked = [];
    calls = c ∙ sym
        (append-nil a.calls);
    are_calls = tt;
  };
  moment = m;
  running = k;
  role = r;
  news_from = t;
}

-- one direct call
pub grows_call : (a b : Context) (n : ℕ) (key : ContKey) (event : Event)
    → Extends a.log b.log (Set n key event a.moment n 0 ∷ []) → b.calls ≡ a.calls ++ n ∷ []
    → b.moment ≡ a.moment → b.running ≡ a.running → b.role ≡ a.role → b.news_from ≡ a.news_from → Grows a b
grows_call a b n key event h c m k r t = record {
  log = record {
    own = Set n key event a.moment n 0 ∷ [];
    by = h;
    all_own = (refl, tt);
    asked = n ∷ [];
    calls
        = c;
    are_calls = ([], [], key, event, refl, tt);
  };
  moment = m;
  running = k;
  role = r;
  news_from = t;
}

pub grows_trans : {a b c : Context} → Grows a b → Grows b c → Grows a c
grows_trans {a} {b} {c} p q = record {
  log = record {
    own = p.log.own ++ q.log.own;
    by = extends_trans p.log.by q.log.by;
    all_own = own_append p.log.own q.log.own p.log.all_own q.log.all_own;
    asked = p.log.asked ++ q.log.asked;
    calls = q.log.calls ∙ ap (λ ns. ns ++ q.log.asked) p.log.calls ∙ append_assoc a.calls p.log.asked
        q.log.asked;
    are_calls = calls_append a.moment p.log.asked q.log.asked p.log.own q.log.own p.log.are_calls
        (subst (λ m. AreCalls m q.log.asked q.log.own) p.moment q.log.are_calls);
  };
  moment = q.moment ∙ p.moment;
  running = q.running ∙ p.running;
  role = q.role ∙ p.role;
  news_from = q.news_from ∙ p.news_from;
}

pub grows_three : {a b c d : Context} → Grows a b → Grows b c → Grows c d → Grows a d
grows_three p q r = grows_trans p (grows_trans q r)

-- the direct calls that wait, where one more waits behind them
pub waits_call : (s t : State) (moment n k : ℕ) (ns ms : List ℕ) (p : Pending) → CallsStay s t
    → ms ≡ ns ++ n ∷ [] → k ≤ length ns → pending_at n t.pending ≡ Some p → p.due ≤ moment → p.period ≡ 0
    → n < t.next → AllCalls s moment (drop k ns) → AllCalls t moment (drop k ms)
waits_call s t moment n k ns ms p stay e le there due plain below h =
    subst (λ qs. AllCalls t moment qs) (sym (ap (drop k) e ∙ drop-append-le k ns (n ∷ []) le))
    (calls_more t moment n (drop k ns) (stay.stay moment (drop k ns) h)
    (is_call t moment n p there due plain below))

pub waits_same : (s t : State) (moment k : ℕ) (ns ms : List ℕ) → CallsStay s t → ms ≡ ns
    → AllCalls s moment (drop k ns) → AllCalls t moment (drop k ms)
waits_same s t moment k ns ms stay e h = subst (λ qs. AllCalls t moment (drop k qs)) (sym e)
    (stay.stay moment (drop k ns) h)

pub goes_call : (a b : Log) (moment n k : ℕ) (ns ms : List ℕ) (key : ContKey) (event : Event)
    → Extends a b (Set n key event moment n 0 ∷ []) → ms ≡ ns ++ n ∷ [] → k ≤ length ns
    → GrowsCalls a b moment (drop k ns) (drop k ms)
goes_call a b moment n k ns ms key event h e le = record {
  own = Set n key event moment n 0 ∷ [];
  by = h;
  all_own = (refl, tt);
  asked = n ∷ [];
  calls = ap (drop k) e ∙ drop-append-le k ns (n ∷ []) le;
  are_calls = ([], [], key, event, refl, tt);
}

pub goes_same : (a b : Log) (moment k : ℕ) (ns ms : List ℕ) → IsSameLog a b → ms ≡ ns
    → GrowsCalls a b moment (drop k ns) (drop k ms)
goes_same a b moment k ns ms h e = record {
  own = [];
  by = extends_none a b h;
  all_own = tt;
  asked = [];
  calls = ap (drop k) e ∙ sym (append-nil (drop k ns));
  are_calls = tt;
}

-- For worlds: name this set in the attribute of an `impl World` or of a function that is lent a `Cx`, as
-- `#[tactic(auto, using(ts_group::proofs::Grows::grows))]`, and the clause `grows` closes in straight-line
-- code.
pub ruleset grows = (grows_refl, grows_trans, grows_three)

-- setting an event, and asking for a direct call
pub ruleset set_steps = (log_none, log_one, stay_same)

pub ruleset call_steps = (waits_call, waits_same, goes_call, goes_same, stay_same)
