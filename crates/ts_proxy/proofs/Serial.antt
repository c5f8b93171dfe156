-- The turns of a serial driver, put together.
use Rattle.std.proofs.Common.{◌≡◌, ◌⊎◌, ℕ, zero, suc, ◌+◌, ◌-◌, ◌<◌, ◌≤◌, true, false, cond, List, [], ◌∷◌}
use Rattle.std.proofs.Common.{◌++◌, length, Option, Some, None, Result, Ok, Err, OnOk, inl, inr, refl, sym, ap, subst}
use Rattle.std.proofs.Common.{◌∙◌, append_assoc, arith}
use Rattle.std.specs.Prelude.{⊤, nat_lt, ◌&&◌}
use Rattle.ts_journal.specs.declared.entry.Event.TheVariants.{Timeout}
use Rattle.ts_journal.specs.declared.entry.Pending.{Pending}
use Rattle.ts_journal.specs.declared.entry.Entry.{Entry}
use Rattle.ts_journal.specs.declared.entry.Entry.TheVariants.{Took, Gave, Set, Handled}
use Rattle.ts_journal.specs.State.{State, fresh_with, pending_at}
use Rattle.ts_journal.specs.Machine.{after, Balances, HasLived, IsLawful, replay}
use Rattle.ts_journal.specs.Log.{Log, Extends, GoesOn, mark_after, new_base}
use Rattle.ts_journal.specs.Laws.{NoTurns}
use Rattle.std.proofs.lemmas.Option.{same_Some}
use Rattle.ts_lists.proofs.Cases.{split}
use Rattle.ts_journal.proofs.Lawful.{lawful_front, lawful_back, replay-append}
use Rattle.ts_journal.proofs.Facts.{counts_balance_lem}
use Rattle.ts_journal.proofs.Extends.{same_refl, extends_trans}
use Rattle.ts_journal.proofs.Folding.{goes_on_extends, goes_on_same, goes_on_trans}
use Rattle.ts_journal.specs.declared.entry.TheConstants.{GREATEST}
use Rattle.ts_group.specs.declared.group.TheConstants.{MOST_EVENTS}
use Rattle.ts_group.specs.declared.group.Group.{Group}
use Rattle.ts_group.specs.Context.{Context, own_key}
use Rattle.ts_link.specs.Moments.{moment_after}
use Rattle.ts_group.specs.Entries.{AllOwn, AreCalls, Grows, renewal}
use Rattle.ts_group.specs.Calls.{Handles, IsRun, RunsFrom, if_pending, next_in}
use Rattle.ts_proxy.specs.Journals.{first_moment, opening_turn, only_seat, IsNextDue, last_moment}
use Rattle.ts_proxy.specs.Journals.{HandlesFrom, HandlesFirst, IsSerial, GoesOnWithin, HandlesSome}
use Rattle.ts_proxy.specs.Journals.{HandlesNext, TakesNext, GoesOnSerially, GoesOnTo, EndsSerially, IsOfDriver, new_log}

no_turns_append : (es fs : List Entry) → NoTurns es → NoTurns fs → NoTurns (es ++ fs)
no_turns_append [] fs h k = k
no_turns_append (Took turn seat ∷ es) fs h k = absurd h
no_turns_append (Gave turn ∷ es) fs h k = absurd h
no_turns_append (e ∷ es) fs h k = no_turns_append es fs h k

-- an earlier number, and more events
from_wider : (low low' now most most' : ℕ) (es : List Entry) → HandlesFrom low now most es → low' ≤ low
    → most ≤ most' → HandlesFrom low' now most' es
from_wider low low' now most most' [] h below more = tt
from_wider low low' now most most' (Took turn seat ∷ es) h below more = tt
from_wider low low' now most most' (Gave turn ∷ es) h below more = tt
from_wider low low' now most most' (Handled number moment ∷ es) (a, same, some, h) below more =
    let least : low' ≤ number = omega (arith, a, below) in
    let one : 1 ≤ most' = omega (arith, some, more) in
    let same_number : number + 1 ≤ number + 1 = omega arith in
    let fewer : most - 1 ≤ most' - 1 = omega (arith, some, more) in
    (least, same, one, from_wider (number + 1) (number + 1) now (most - 1) (most' - 1) es h same_number fewer)
from_wider low low' now most most' (e ∷ es) h below more = from_wider low low' now most most' es h below more

-- and then entries that handle none in this turn
from_append : (low now most : ℕ) (es fs : List Entry) → HandlesFrom low now most es
    → ((l m : ℕ) → HandlesFrom l now m fs) → HandlesFrom low now most (es ++ fs)
from_append low now most [] fs h k = k low most
from_append low now most (Took turn seat ∷ es) fs h k = tt
from_append low now most (Gave turn ∷ es) fs h k = tt
from_append low now most (Handled number moment ∷ es) fs (a, same, some, h) k =
    (a, same, some, from_append (number + 1) now (most - 1) es fs h k)
from_append low now most (e ∷ es) fs h k = from_append low now most es fs h k

-- the moment after entries behind others
last_append : (m : ℕ) (es fs : List Entry) → last_moment m (es ++ fs) ≡ last_moment (last_moment m es) fs
last_append m [] fs = refl
last_append m (Handled number moment ∷ es) fs = last_append moment es fs
last_append m (e ∷ es) fs = last_append m es fs

-- a turn has one moment
last_from : (low now most : ℕ) (es : List Entry) → NoTurns es → HandlesFrom low now most es
    → last_moment now es ≡ now
last_from low now most [] within h = refl
last_from low now most (Took turn seat ∷ es) within h = absurd within
last_from low now most (Gave turn ∷ es) within h = absurd within
last_from low now most (Handled number moment ∷ es) within (a, same, some, h) =
    subst (λ m. last_moment m es ≡ now) (sym same) (last_from (number + 1) now (most - 1) es within h)
last_from low now most (e ∷ es) within h = last_from low now most es within h

-- Entries that neither begin nor end a turn, and handle nothing.
record IsQuiet (es : List Entry) : Type 0 where
  within : NoTurns es
  from : (low now most : ℕ) → HandlesFrom low now most es
  before : (low now most : ℕ) (fs : List Entry) → HandlesFrom low now most fs
      → HandlesFrom low now most (es ++ fs)

quiet_append : (es fs : List Entry) → IsQuiet es → IsQuiet fs → IsQuiet (es ++ fs)
quiet_append es fs p q = record {
  within = no_turns_append es fs p.within q.within;
  from = λ low now most. p.before low now most fs (q.from low now most);
  before = λ low now most gs h. subst (HandlesFrom low now most) (sym (append_assoc es fs gs))
      (p.before low now most (fs ++ gs) (q.before low now most gs h));
}

-- So are a handler's own entries, and the moment stays.
record IsOfHandler (es : List Entry) : Type 0 where
  quiet : IsQuiet es
  first : (m : ℕ) (s : State) → HandlesFirst m s es
  still : (m : ℕ) → last_moment m es ≡ m

own_quiet : (es : List Entry) → AllOwn es → IsOfHandler es
own_quiet [] h = record {
  quiet = record { within = tt; from = λ low now most. tt; before = λ low now most fs k. k };
  first = λ m s. tt;
  still = λ m. refl;
}
own_quiet (Took turn seat ∷ es) (a, b) = absurd a
own_quiet (Gave turn ∷ es) (a, b) = absurd a
own_quiet (Handled number moment ∷ es) (a, b) = absurd a
own_quiet (e ∷ es) (a, b) =
    let q = own_quiet es b in
    record {
      quiet = record { within = q.quiet.within; from = q.quiet.from; before = q.quiet.before };
      first = λ m s. q.first m (after s e);
      still = q.still;
    }

-- the next occurrence of a periodic event is quiet too
renewal_quiet : (p : Pending) (next moment : ℕ) → IsQuiet (renewal p next moment)
renewal_quiet p next moment =
    split (nat_lt 0 p.period && nat_lt next GREATEST)
    (λ t. IsQuiet (cond t (Set next p.key Timeout (moment_after moment p.period) p.series p.period ∷ []) []))
    (λ e. record { within = tt; from = λ low now most. tt; before = λ low now most fs k. k })
    (λ e. record { within = tt; from = λ low now most. tt; before = λ low now most fs k. k })

-- the number that is next does not fall
next_rises : (low : ℕ) (s : State) (es : List Entry) → low ≤ s.next → low ≤ (replay s es).next
next_rises low s [] h = h
next_rises low s (Set number key event due series period ∷ es) h = next_rises low
    (after s (Set number key event due series period)) es (omega (arith, h))
next_rises low s (e ∷ es) h = next_rises low (after s e) es h

-- these numbers rise from one on, below another
abbrev AreRising : ℕ → ℕ → List ℕ → Type 0
AreRising low top [] = ⊤
AreRising low top (n ∷ ns) = (low ≤ n) × (n < top) × AreRising (n + 1) top ns

rising_lower : (low low' top : ℕ) (ns : List ℕ) → AreRising low top ns → low' ≤ low → AreRising low' top ns
rising_lower low low' top [] h below = tt
rising_lower low low' top (n ∷ ns) (a, b, c) below = let least : low' ≤ n = omega (arith, a, below)
    in (least, b, c)

rising_append : (low mid top : ℕ) (ns ms : List ℕ) → AreRising low mid ns → AreRising mid top ms → low ≤ mid
    → mid ≤ top → AreRising low top (ns ++ ms)
rising_append low mid top [] ms h k below within = rising_lower mid low top ms k below
rising_append low mid top (n ∷ ns) ms (a, b, c) k below within =
    let more : n + 1 ≤ mid = omega (arith, b) in
    let under : n < top = omega (arith, b, within) in
    (a, under, rising_append (n + 1) mid top ns ms c k more within)

-- direct calls have numbers that were next when they were set
calls_rise : (low : ℕ) (s : State) (moment : ℕ) (ns : List ℕ) (own : List Entry) → AreCalls moment ns own
    → IsLawful s own → low ≤ s.next → AreRising low (replay s own).next ns
calls_rise low s moment [] own calls lawful below = tt
calls_rise low s moment (n ∷ ns) own (before, behind, key, event, is, rest) lawful below =
    let set = Set n key event moment n 0 in
    let t = replay s before in
    let there = lawful_back s before (set ∷ behind) (subst (IsLawful s) is lawful) in
    let next : n ≡ t.next = there.0.1 in
    let rises : low ≤ t.next = next_rises low s before below in
    let least : low ≤ n = omega (arith, next, rises) in
    let from : n + 1 ≤ (after t set).next = omega (arith, next) in
    let top : n + 1 ≤ (replay (after t set) behind).next = next_rises (n + 1) (after t set) behind from in
    let under : n < (replay (after t set) behind).next = omega (arith, top) in
    subst (λ e. AreRising low e.next (n ∷ ns)) (sym (ap (replay s) is ∙ replay-append s before
    (set ∷ behind)))
    (least, under, calls_rise (n + 1) (after t set) moment ns behind rest there.1 from)

-- so have the one that is handled next and those behind it
next_from : (low top : ℕ) (ps : List Pending) (ns : List ℕ) (next : ℕ) (behind : List ℕ)
    → AreRising low top ns → next_in ps ns ≡ Some (next, behind)
    → (low ≤ next) × (next < top) × AreRising (next + 1) top behind
next_from low top ps [] next behind h is = absurd cc
next_from low top ps (n ∷ ns) next behind (a, b, c) is = found (pending_at n ps) is
    (next_from (n + 1) top ps ns next behind c)
  where
    found : (p : Option Pending) → if_pending p (n, ns) (next_in ps ns) ≡ Some (next, behind)
        → (next_in ps ns ≡ Some (next, behind) → (n + 1 ≤ next) × (next < top) × AreRising (next + 1) top
        behind)
        → (low ≤ next) × (next < top) × AreRising (next + 1) top behind
    found None is later =
        let then = later is in
        let least : low ≤ next = omega (arith, a, then.0) in
        (least, then.1, then.2)
    found (Some p) is later =
        let same = same_Some (n, ns) (next, behind) is in
        subst (λ (x : ℕ × List ℕ). (low ≤ x.0) × (x.0 < top) × AreRising (x.0 + 1) top x.1) same (a, b, c)

-- Entries within a turn of which the first handles the event of a number. Then come at most so many more
-- events, at the
-- same moment, under numbers that rise from this one on.
record HandlesThen (low number moment more : ℕ) (es : List Entry) : Type 0 where
  rest : List Entry
  is : es ≡ Handled number moment ∷ rest
  within : NoTurns rest
  from : HandlesFrom low moment more rest

then_append : (low number moment more : ℕ) (es fs : List Entry) → HandlesThen low number moment more es
    → IsQuiet fs → HandlesThen low number moment more (es ++ fs)
then_append low number moment more es fs h q = record {
  rest = h.rest ++ fs;
  is = ap (λ xs. xs ++ fs) h.is;
  within = no_turns_append h.rest fs h.within q.within;
  from = from_append low moment more h.rest fs h.from (λ l m. q.from l moment m);
}

-- one event with its handler: behind it all is quiet
record IsAlone (number moment : ℕ) (run : List Entry) : Type 0 where
  rest : List Entry
  is : run ≡ Handled number moment ∷ rest
  quiet : IsQuiet rest

run_alone : (s : State) (moment number : ℕ) (asked : List ℕ) (run : List Entry)
    → IsRun s moment number asked run → IsAlone number moment run
run_alone s moment number asked run r =
    let again = renewal r.event s.next moment in
    record {
      rest = again ++ r.own;
      is = r.entries_are;
      quiet = quiet_append again r.own (renewal_quiet r.event s.next moment)
          (own_quiet r.own r.all_own).quiet;
    }

run_asks : (s : State) (moment number : ℕ) (asked : List ℕ) (run : List Entry)
    → IsRun s moment number asked run → IsLawful s run → AreRising s.next (replay s run).next asked
run_asks s moment number asked run r lawful =
    let first = Handled number moment ∷ renewal r.event s.next moment in
    let same : s.next ≤ s.next = omega arith in
    subst (λ e. AreRising s.next e.next asked) (sym (ap (replay s) r.entries_are ∙ replay-append s first
    r.own))
    (calls_rise s.next (replay s first) moment asked r.own r.are_calls
    (lawful_back s first r.own (subst (IsLawful s) r.entries_are lawful)) (next_rises s.next s first same))

-- events that are handled one after the other
runs_then : {W : Type 0} (Called : W → W → List ℕ → Type 0) (u v : W) (low : ℕ) (s : State)
    (moment number : ℕ) (queue : List ℕ) (k : ℕ) (es : List Entry) (left : List ℕ)
    → RunsFrom Called u v s moment number queue k es left → IsLawful s es → low ≤ s.next
    → AreRising low s.next queue → HandlesThen low number moment (k - 1) es
runs_then Called u v low s moment number queue zero es left h lawful below above = absurd h
runs_then Called u v low s moment number queue (suc zero) es left (asked, r, called, e) lawful below above =
    let one = run_alone s moment number asked es r in
    record {
      rest = one.rest;
      is = one.is;
      within = one.quiet.within;
      from = one.quiet.from low moment
          (suc zero - 1);
    }
runs_then Called u v low s moment number queue (suc (suc k)) es left
    (asked, run, rest, r, e, mid, called, next, behind, n, more) lawful below above =
    let both : IsLawful s (run ++ rest) = subst (IsLawful s) e lawful in
    let t = replay s run in
    let one = run_alone s moment number asked run r in
    let same : s.next ≤ s.next = omega arith in
    let rose : s.next ≤ t.next = next_rises s.next s run same in
    let asks = run_asks s moment number asked run r (lawful_front s run rest both) in
    let found = next_from low t.next t.pending (queue ++ asked) next behind
    (rising_append low s.next t.next queue asked above asks below rose) n in
    let after_next : next + 1 ≤ t.next = omega (arith, found.1) in
    let some : 1 ≤ suc k = omega arith in
    let then : HandlesThen (next + 1) next moment (suc k - 1) rest =
    runs_then Called mid v (next + 1) t moment next behind (suc k) rest left more
    (lawful_back s run rest both) after_next found.2 in
    let all : HandlesThen low number moment (suc k) es = record {
      rest = one.rest ++ rest;
      is = e ∙ ap (λ xs. xs ++ rest) one.is;
      within = no_turns_append one.rest rest one.quiet.within (subst NoTurns (sym then.is) then.within);
      from = one.quiet.before low moment (suc k) rest (subst (HandlesFrom low moment (suc k)) (sym then.is)
          (found.0, refl, some, then.from));
    } in
    let less : suc k ≡ suc (suc k) - 1 = omega arith in
    subst (λ m. HandlesThen low number moment m es) less all

-- these entries begin with a turn, if there are any
abbrev IsApart : List Entry → Type 0
IsApart [] = ⊤
IsApart (Took turn seat ∷ es) = ⊤
IsApart (_ ∷ es) = ⊥

-- so do those that go on where no turn is held
idle_apart : (s : State) (es : List Entry) → s.held ≡ false → IsLawful s es → IsApart es
idle_apart s [] idle h = tt
idle_apart s (Took turn seat ∷ es) idle h = tt
idle_apart s (Gave turn ∷ es) idle h = let clash : true ≡ false = sym h.0.0 ∙ idle in cc
idle_apart s (e ∷ es) idle h = let clash : true ≡ false = sym h.0.0 ∙ idle in cc

apart_from : (low now most : ℕ) (es : List Entry) → IsApart es → HandlesFrom low now most es
apart_from low now most [] h = tt
apart_from low now most (Took turn seat ∷ es) h = tt
apart_from low now most (e ∷ es) h = absurd h

first_append : (m : ℕ) (s : State) (es fs : List Entry) → HandlesFirst m s es → IsApart fs
    → HandlesFirst m s (es ++ fs)
first_append m s [] [] h k = tt
first_append m s [] (Took turn seat ∷ fs) h k = tt
first_append m s [] (f ∷ fs) h k = absurd k
first_append m s (Took turn seat ∷ es) fs h k = tt
first_append m s (Gave turn ∷ es) fs h k = h
first_append m s (Handled number moment ∷ es) fs (a, b) k =
    (a, from_append s.next moment (MOST_EVENTS - 1) es fs b (λ l n. apart_from l moment n fs k))
first_append m s (e ∷ es) fs h k = first_append m (after s e) es fs h k

-- the end of a turn that handles something, or of turn 1
first_gave : (m : ℕ) (s : State) (es : List Entry) (turn : ℕ) → NoTurns es → HandlesFirst m s es
    → HandlesSome es ⊎ (turn ≡ opening_turn) → HandlesFirst m s (es ++ Gave turn ∷ [])
first_gave m s [] turn within h (inl some) = absurd some
first_gave m s [] turn within h (inr first) = first
first_gave m s (Took number seat ∷ es) turn within h k = absurd within
first_gave m s (Gave number ∷ es) turn within h k = absurd within
first_gave m s (Handled number moment ∷ es) turn within (a, b) k =
    (a, from_append s.next moment (MOST_EVENTS - 1) es (Gave turn ∷ []) b (λ l n. tt))
first_gave m s (e ∷ es) turn within h k = first_gave m (after s e) es turn within h k

serial_append : (m : ℕ) (s : State) (es fs : List Entry) → IsSerial m s es → IsApart fs
    → IsSerial (last_moment m es) (replay s es) fs → IsSerial m s (es ++ fs)
serial_append m s [] fs h apart k = k
serial_append m s (Took turn seat ∷ es) fs (next, seated, first, h) apart k =
    let t = after s (Took turn seat) in
    (next, seated, first_append m t es fs first apart, serial_append m t es fs h apart k)
serial_append m s (Handled number moment ∷ es) fs h apart k = serial_append moment
    (after s (Handled number moment)) es fs h apart k
serial_append m s (e ∷ es) fs h apart k = serial_append m (after s e) es fs h apart k

gave_serial : (m : ℕ) (s : State) (es : List Entry) (turn : ℕ) → NoTurns es
    → IsSerial m s (es ++ Gave turn ∷ [])
gave_serial m s [] turn h = tt
gave_serial m s (Took number seat ∷ es) turn h = absurd h
gave_serial m s (Gave number ∷ es) turn h = absurd h
gave_serial m s (Handled number moment ∷ es) turn h = gave_serial moment (after s (Handled number moment)) es
    turn h
gave_serial m s (e ∷ es) turn h = gave_serial m (after s e) es turn h

-- a handler's own calls go on within its turn
pub within_grows : (m : ℕ) (a b : Context) → Grows a b → GoesOnWithin m a.log b.log
within_grows m a b g =
    let q = own_quiet g.log.own g.log.all_own in
    record { added = g.log.own; by = g.log.by; within = q.quiet.within; first = q.first m a.log.state }

-- and leave the moment as it is
still_grows : (m : ℕ) (a b : Context) (g : Grows a b) → last_moment m g.log.own ≡ m
still_grows m a b g = (own_quiet g.log.own g.log.all_own).still m

-- the events that are handled with that of a number, and the calls after them
then_grows : {W Q R T U : Type 0} (Called : W → W → List ℕ → Type 0) (a b : Group W Q R T U) (c : Context)
    (number moment events : ℕ)
    → (h : Handles Called a b number moment events) → (g : Grows b.cx c)
    → HandlesThen a.cx.log.state.next number moment (MOST_EVENTS - 1) (h.es ++ g.log.own)
then_grows Called a b c number moment events h g =
    let low = a.cx.log.state.next in
    let same : low ≤ low = omega arith in
    let few : events - 1 ≤ MOST_EVENTS - 1 = omega (arith, h.most) in
    let runs = runs_then Called a.world b.world low a.cx.log.state moment number [] events h.es b.cx.calls
    h.runs h.by.lawful same tt in
    let wide : HandlesThen low number moment (MOST_EVENTS - 1) h.es = record {
      rest = runs.rest;
      is = runs.is;
      within = runs.within;
      from = from_wider low low moment (events - 1) (MOST_EVENTS - 1) runs.rest runs.from same few;
    } in
    then_append low number moment (MOST_EVENTS - 1) h.es g.log.own wide
    (own_quiet g.log.own g.log.all_own).quiet

-- they go on within a turn if the number is next, and the moment moves on to theirs
pub within_handled : {W Q R T U : Type 0} (Called : W → W → List ℕ → Type 0) (a b : Group W Q R T U)
    (c : Context) (number moment events : ℕ)
    → Handles Called a b number moment events → Grows b.cx c → HandlesNext number moment a.cx.log c.log
within_handled Called a b c number moment events h g before next =
    let all = then_grows Called a b c number moment events h g in
    record {
      on = record {
        added = h.es ++ g.log.own;
        by = extends_trans h.by g.log.by;
        within = subst NoTurns (sym all.is) all.within;
        first = subst (HandlesFirst before a.cx.log.state) (sym all.is) (next, all.from);
      };
      some = subst HandlesSome (sym all.is) tt;
      now = ap (last_moment before) all.is
          ∙ last_from a.cx.log.state.next moment (MOST_EVENTS - 1) all.rest all.within all.from;
    }

-- no turns yet
pub to_none : (m : ℕ) (a : Log) → GoesOnTo m m a a
to_none m a = record {
  on = record { turns = []; by = goes_on_same a a (same_refl a); serial = tt };
  now = refl;
}

-- turns after turns
pub serial_trans : (l m : ℕ) (a b c : Log) → GoesOnTo l m a b → b.state.held ≡ false → GoesOnSerially m b c
    → GoesOnSerially l a c
serial_trans l m a b c p idle q = record {
  turns = p.on.turns ++ q.turns;
  by = goes_on_trans p.on.by q.by;
  serial =
      let from : IsSerial (last_moment l p.on.turns) b.state q.turns =
      subst (λ k. IsSerial k b.state q.turns) (sym p.now) q.serial in
      serial_append l a.state p.on.turns q.turns p.on.serial
      (idle_apart b.state q.turns idle q.by.lawful)
      (subst (λ s. IsSerial (last_moment l p.on.turns) s q.turns) p.on.by.state from);
}

pub to_trans : (l m n : ℕ) (a b c : Log) → GoesOnTo l m a b → b.state.held ≡ false → GoesOnTo m n b c
    → GoesOnTo l n a c
unfolding serial_trans
to_trans l m n a b c p idle q = record {
  on = serial_trans l m a b c p idle q.on;
  now = last_append l p.on.turns q.on.turns ∙ ap (λ k. last_moment k q.on.turns) p.now ∙ q.now;
}

-- one turn, by which the driver comes from one moment to another
pub serial_turn : (m n : ℕ) (a b c d : Log) (turn given : ℕ) → turn ≡ a.state.turns + 1
    → Extends a b (Took turn only_seat ∷ []) → (g : GoesOnWithin m b c)
    → HandlesSome g.added ⊎ (given ≡ opening_turn) → last_moment m g.added ≡ n → GoesOn c d (Gave given ∷ [])
    → GoesOnTo m n a d
serial_turn m n a b c d turn given next took g some now gave =
    let s = after a.state (Took turn only_seat) in
    record {
      on = record {
        turns = Took turn only_seat ∷ g.added ++ Gave given ∷ [];
        by = goes_on_trans (goes_on_extends a b (Took turn only_seat ∷ []) took)
            (goes_on_trans (goes_on_extends b c g.added g.by) gave);
        serial = (
          next,
          refl,
          first_gave m s g.added given g.within (subst (λ t. HandlesFirst m t g.added) took.state g.first)
              some,
          gave_serial m s g.added given g.within,
        );
      };
      now = last_append m g.added (Gave given ∷ []) ∙ now;
    }

-- the first turn, in which a handler's own calls alone are made
pub serial_opens : (m : ℕ) (a : Log) (b c : Context) (d : Log) (turn given : ℕ) → turn ≡ a.state.turns + 1
    → Extends a b.log (Took turn only_seat ∷ []) → Grows b c → given ≡ opening_turn
    → GoesOn c.log d (Gave given ∷ []) → GoesOnTo m m a d
unfolding within_grows
serial_opens m a b c d turn given next took g first gave =
    serial_turn m m a b.log c.log d turn given next took (within_grows m b c g) (inr first)
    (still_grows m b c g) gave

-- one turn that handled its event, unless memory lacked
pub serial_if_ok : {T E : Type 0} (r : Result T E) (a b c d : Log) (turn given number moment : ℕ)
    → turn ≡ a.state.turns + 1 → Extends a b (Took turn only_seat ∷ [])
    → OnOk r (HandlesNext number moment b c) → GoesOn c d (Gave given ∷ [])
    → OnOk r (TakesNext number moment a d)
serial_if_ok (Ok x) a b c d turn given number moment next took handles gave = λ before due.
    let h = handles before (subst (λ s. IsNextDue before s number moment) (sym took.state) due) in
    serial_turn before moment a b c d turn given next took h.on (inl h.some) h.now gave
serial_if_ok (Err e) a b c d turn given number moment next took handles gave = tt

-- a journal that the serial driver drove to its end, from a new one on
pub of_driver : (a b : Log) → a.base ≡ new_base (fresh_with 0 own_key) → a.entries ≡ []
    → a.state ≡ fresh_with 0 own_key → EndsSerially a b → IsOfDriver b
of_driver a b base none state ends =
    let turns = ends.on.turns in
    let by = ends.on.by in
    let on : GoesOn (new_log new) b turns = record {
      folded = by.folded;
      entries = ap (λ es. es ++ turns) (sym none) ∙ by.entries;
      base_state = by.base_state ∙ ap (λ x. replay x.state by.folded) base;
      made = by.made ∙ ap (λ x. x.made) base;
      mark = by.mark ∙ ap (λ x. mark_after x.mark by.folded) base;
      lawful = subst (λ s. IsLawful s turns) state by.lawful;
      state = by.state ∙ ap (λ s. replay s turns) state;
    } in
    record {
      turns = turns;
      on = on;
      serial = subst (λ s. IsSerial first_moment s turns) state ends.on.serial;
      final = record {
        lawful = subst (λ s. IsLawful s b.entries) (sym on.base_state)
            (lawful_back new on.folded b.entries (subst (IsLawful new) on.entries on.lawful));
        state = on.state ∙ ap (replay new) on.entries ∙ replay-append new on.folded b.entries
            ∙ ap (λ s. replay s b.entries) (sym on.base_state);
        lived_base = subst (λ m. HasLived m b.base.state) (sym on.made) (record {
          beginning = new;
          is_beginning = inr (own_key, refl);
          life = on.folded;
          lawful = lawful_front new on.folded b.entries (subst (IsLawful new) on.entries on.lawful);
          state = on.base_state;
        });
        lived = subst (λ m. HasLived m b.state) (sym on.made) (record {
          beginning = new;
          is_beginning = inr (own_key, refl);
          life = turns;
          lawful = on.lawful;
          state = on.state;
        });
        given = ends.given;
        none = ends.none;
        closed =
            let sum : Balances b.state = subst Balances (sym on.state)
            (counts_balance_lem new turns refl on.lawful) in
            let none_left : length b.state.pending ≡ 0 = ap length ends.none in
            omega (arith, sum, none_left);
      };
    }
  where
    new : State
    new = fresh_with 0 own_key
