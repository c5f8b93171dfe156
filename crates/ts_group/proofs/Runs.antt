-- Events that are handled one after the other.
use Rattle.std.proofs.Common.{◌≡◌, ℕ, zero, suc, ◌+◌, ◌<◌, ◌≤◌, ◌⊎◌, inl, inr, true, cond, List, [], ◌∷◌, ◌++◌, Some, None, refl, sym, ap, subst, ◌∙◌, append_assoc, arith}
use Rattle.std.specs.Prelude.{nat_lt, ◌&&◌}
use Rattle.ts_journal.specs.declared.entry.TheConstants.{GREATEST}
use Rattle.ts_journal.specs.declared.entry.Pending.{Pending}
use Rattle.ts_journal.specs.declared.entry.Event.TheVariants.{Timeout}
use Rattle.ts_journal.specs.declared.entry.Entry.{Entry}
use Rattle.ts_journal.specs.declared.entry.Entry.TheVariants.{Took, Gave, Made, Set, Handled, Cancelled, Dropped, Destroyed}
use Rattle.ts_journal.specs.State.{State}
use Rattle.ts_journal.specs.Machine.{after, replay}
use Rattle.ts_journal.specs.Log.{Log, Extends}
use Rattle.ts_journal.proofs.Cases.{split}
use Rattle.ts_journal.proofs.Lawful.{replay-append}
use Rattle.ts_journal.proofs.Extends.{extends_trans, extends_before}
use Rattle.ts_group.specs.declared.group.TheConstants.{MOST_EVENTS}
use Rattle.ts_group.specs.declared.group.Group.{Group}
use Rattle.ts_group.specs.Context.{Context, IsSame}
use Rattle.ts_link.specs.Moments.{moment_after}
use Rattle.ts_group.specs.Entries.{IsOwn, AllOwn, Grows, renewal}
use Rattle.ts_group.specs.Changes.{StaysInTurn}
use Rattle.ts_group.specs.Calls.{IsReady, IsRun, RunsFrom, HasRun, Handles, next_in}

-- what a handler's own entries leave as it was
record SameTurn (s t : State) : Type 0 where
  held : t.held ≡ s.held
  turns : t.turns ≡ s.turns
  handled : t.handled_count ≡ s.handled_count

same_turn : (s t u : State) → SameTurn s t → SameTurn t u → SameTurn s u
same_turn s t u p q = record {
  held = q.held ∙ p.held;
  turns = q.turns ∙ p.turns;
  handled = q.handled ∙
      p.handled;
}

own_step : (s : State) (e : Entry) → IsOwn e → SameTurn s (after s e)
own_step s (Took turn seat) o = absurd o
own_step s (Gave turn) o = absurd o
own_step s (Handled number moment) o = absurd o
own_step s (Made key) o = record { held = refl; turns = refl; handled = refl }
own_step s (Set number key event due series period) o = record { held = refl; turns = refl; handled = refl }
own_step s (Cancelled number) o = record { held = refl; turns = refl; handled = refl }
own_step s (Dropped number) o = record { held = refl; turns = refl; handled = refl }
own_step s (Destroyed key) o = record { held = refl; turns = refl; handled = refl }

own_turn : (s : State) (es : List Entry) → AllOwn es → SameTurn s (replay s es)
own_turn s [] h = record { held = refl; turns = refl; handled = refl }
own_turn s (e ∷ es) (a, b) = same_turn s (after s e) (replay (after s e) es) (own_step s e a)
    (own_turn (after s e) es b)

-- a handler's own calls leave the turn held
pub grows_held : {a b : Context} → Grows a b → a.log.state.held ≡ true → b.log.state.held ≡ true
grows_held {a} {b} g h = ap (λ (s : State). s.held) g.log.by.state ∙
    (own_turn a.log.state g.log.own g.log.all_own).held ∙ h

pub grows_turns : {a b : Context} → Grows a b → b.log.state.turns ≡ a.log.state.turns
grows_turns {a} {b} g = ap (λ (s : State). s.turns) g.log.by.state ∙
    (own_turn a.log.state g.log.own g.log.all_own).turns

-- a handler's own calls stay in the turn
pub grows_stays : {a b : Context} → Grows a b → a.log.state.held ≡ true → StaysInTurn a.log.state b.log.state
grows_stays g h = record { held = grows_held g h; turns = grows_turns g }

pub stays_trans : {s t u : State} → StaysInTurn s t → StaysInTurn t u → StaysInTurn s u
stays_trans p q = record { held = q.held; turns = q.turns ∙ p.turns }

pub stays_same : {s t u : State} → u ≡ t → StaysInTurn s t → StaysInTurn s u
stays_same e p = record {
  held = ap (λ (x : State). x.held) e ∙ p.held;
  turns = ap (λ (x : State). x.turns) e
      ∙ p.turns;
}

-- the next occurrence of a periodic event leaves the turn as it was
renewal_turn : (s : State) (p : Pending) (next moment : ℕ) → SameTurn s (replay s (renewal p next moment))
renewal_turn s p next moment =
    split (nat_lt 0 p.period && nat_lt next GREATEST)
    (λ t. SameTurn s (replay s (cond t (Set next p.key Timeout (moment_after moment p.period) p.series
    p.period ∷ []) [])))
    (λ e. record { held = refl; turns = refl; handled = refl })
    (λ e. record { held = refl; turns = refl; handled = refl })

-- an event that is handled leaves the turn, and raises the count by one
record OneMore (s t : State) : Type 0 where
  held : t.held ≡ s.held
  turns : t.turns ≡ s.turns
  handled : t.handled_count ≡ s.handled_count + 1

run_turn : (s : State) (moment number : ℕ) (asked : List ℕ) (run : List Entry)
    → IsRun s moment number asked run → OneMore s (replay s run)
run_turn s moment number asked run r =
    let ren = renewal r.event s.next moment in
    let a = after s (Handled number moment) in
    let b = replay a ren in
    let x = renewal_turn a r.event s.next moment in
    let y = own_turn b r.own r.all_own in
    let e : replay s run ≡ replay b r.own = ap (replay s) r.entries_are ∙ replay-append a ren r.own in
    record {
      held = ap (λ (t : State). t.held) e ∙ y.held ∙ x.held;
      turns = ap (λ (t : State). t.turns) e ∙ y.turns ∙ x.turns;
      handled = ap (λ (t : State). t.handled_count) e ∙ y.handled ∙ x.handled;
    }

pub runs_rise : {W : Type 0} (Called : W → W → List ℕ → Type 0) (u v : W) (s : State) (moment number : ℕ)
    (queue : List ℕ) (k : ℕ) (es : List Entry) (left : List ℕ)
    → RunsFrom Called u v s moment number queue k es left → (replay s es).handled_count ≡ s.handled_count + k
runs_rise Called u v s moment number queue zero es left h = absurd h
runs_rise Called u v s moment number queue (suc zero) es left (asked, r, called, e) =
    (run_turn s moment number asked es r).handled
runs_rise Called u v s moment number queue (suc (suc k)) es left
    (asked, run, rest, r, e, mid, called, next, behind, n, more) =
    let a = (run_turn s moment number asked run r).handled in
    let b = runs_rise Called mid v (replay s run) moment next behind (suc k) rest left more in
    let f : (replay s es).handled_count ≡ (replay (replay s run) rest).handled_count = ap
    (λ fs. (replay s fs).handled_count) e ∙ ap (λ (t : State). t.handled_count) (replay-append s run rest)
    in
    omega arith

-- one event more at the end
pub runs_more : {W : Type 0} (Called : W → W → List ℕ → Type 0) (u v w : W) (s : State) (moment number : ℕ)
    (queue : List ℕ) (k : ℕ) (es : List Entry) (left : List ℕ) (next : ℕ) (behind asked : List ℕ)
    (run : List Entry)
    → RunsFrom Called u v s moment number queue k es left
    → next_in (replay s es).pending left ≡ Some (next, behind) → IsRun (replay s es) moment next asked run
    → Called v w asked
    → RunsFrom Called u w s moment number queue (suc k) (es ++ run) (behind ++ asked)
runs_more Called u v w s moment number queue zero es left next behind asked run h n r d = absurd h
runs_more Called u v w s moment number queue (suc zero) es left next behind asked run (first, f, called, e) n
    r d = (
      first,
      es,
      run,
      f,
      refl,
      v,
      called,
      next,
      behind,
      subst
          (λ q. next_in (replay s es).pending q ≡ Some (next, behind)) e n,
      (asked, r, d, refl),
    )
runs_more Called u v w s moment number queue (suc (suc k)) es left next behind asked run
    (first, one, rest, f, e, mid, called, next2, behind2, n2, more) n r d =
    let same : replay s es ≡ replay (replay s one) rest = ap (replay s) e ∙ replay-append s one rest in (
      first,
      one,
      rest ++ run,
      f,
      ap (λ fs. fs ++ run) e ∙ append_assoc one rest run,
      mid,
      called,
      next2,
      behind2,
      n2,
      runs_more Called mid v w (replay s one) moment next2 behind2 (suc k) rest left next behind asked run
          more
          (subst (λ (t : State). next_in t.pending left ≡ Some (next, behind)) same n)
          (subst (λ (t : State). IsRun t moment next asked run) same r) d,
    )

-- So many events were handled, the last of which was handled just now.
pub record HasRunAll {W Q R T U : Type 0} (Called : W → W → List ℕ → Type 0) (start now : Group W Q R T U)
    (moment first events : ℕ) : Type 0 where
  pub es : List Entry
  pub by : Extends start.cx.log now.cx.log es
  pub runs : RunsFrom Called start.world now.world start.cx.log.state moment first [] events es now.cx.calls
  pub turn : StaysInTurn start.cx.log.state now.cx.log.state
  pub at_moment : now.cx.moment ≡ moment
  pub idle : now.cx.running ≡ None
  pub news_from : now.cx.news_from ≡ start.cx.news_from

-- nothing was handled yet, and the first event is the next
pub record BeginsRun {W Q R T U : Type 0} (start now : Group W Q R T U) (first events number : ℕ) : Type 0
  where
    pub none : events ≡ 0
    pub log : now.cx.log ≡ start.cx.log
    pub calls : now.cx.calls ≡ []
    pub is_first : number ≡ first
    pub world : now.world ≡ start.world

-- so many events were handled, and a direct call that waits is the next
pub record GoesOnRun {W Q R T U : Type 0} (Called : W → W → List ℕ → Type 0) (start now : Group W Q R T U)
    (moment first events number : ℕ) : Type 0 where
  pub es : List Entry
  pub left : List ℕ
  pub by : Extends start.cx.log now.cx.log es
  pub runs : RunsFrom Called start.world now.world start.cx.log.state moment first [] events es left
  pub next : next_in now.cx.log.state.pending left ≡ Some (number, now.cx.calls)

-- the event that is handled next, after so many events
pub record InRun {W Q R T U : Type 0} (Called : W → W → List ℕ → Type 0) (start now : Group W Q R T U)
    (moment first events : ℕ) (event : Pending) : Type 0 where
  pub turn : StaysInTurn start.cx.log.state now.cx.log.state
  pub at_moment : now.cx.moment ≡ moment
  pub news_from : now.cx.news_from ≡ start.cx.news_from
  pub ready : IsReady now.cx.log moment event
  pub so_far : BeginsRun start now first events event.number ⊎ GoesOnRun Called start now moment first events
      event.number

pub begin_run : {W Q R T U : Type 0} (Called : W → W → List ℕ → Type 0) (start now : Group W Q R T U)
    (moment : ℕ) (event : Pending)
    → now.cx ≡ record start.cx { calls = []; moment = moment } → now.world ≡ start.world
    → start.cx.log.state.held ≡ true → IsReady start.cx.log moment event
    → InRun Called start now moment event.number 0 event
begin_run Called start now moment event e w h r =
    let log : now.cx.log ≡ start.cx.log = ap (λ (c : Context). c.log) e in
    record {
      turn = record {
        held = ap (λ (l : Log). l.state.held) log ∙ h;
        turns = ap (λ (l : Log). l.state.turns)
            log;
      };
      at_moment = ap (λ (c : Context). c.moment) e;
      news_from = ap (λ (c : Context). c.news_from) e;
      ready = subst (λ l. IsReady l moment event) (sym log) r;
      so_far = inl (record {
        none = refl;
        log = log;
        calls = ap (λ (c : Context). c.calls) e;
        is_first = refl;
        world = w;
      });
    }

pub ran_more : {W Q R T U : Type 0} (Called : W → W → List ℕ → Type 0) (start a b : Group W Q R T U)
    (moment first events : ℕ) (event : Pending)
    → InRun Called start a moment first events event → HasRun Called a b event.number
    → HasRunAll Called start b moment first (events + 1)
ran_more Called start a b moment first events event i r =
    let is_run : IsRun a.cx.log.state moment event.number r.asked r.run = subst
    (λ m. IsRun a.cx.log.state m event.number r.asked r.run) i.at_moment r.is_run in
    elim i.so_far [
      | inl z ↦
          let k : 1 ≡ events + 1 = omega (arith, z.none) in
          let first_run : IsRun start.cx.log.state moment first r.asked r.run =
          subst (λ n. IsRun start.cx.log.state moment n r.asked r.run) z.is_first
          (subst (λ (l : Log). IsRun l.state moment event.number r.asked r.run) z.log is_run) in
          record {
            es = r.run;
            by = subst (λ l. Extends l b.cx.log r.run) z.log r.by;
            runs = subst (λ n. RunsFrom Called start.world b.world start.cx.log.state moment first [] n r.run
                b.cx.calls) k (
                  r.asked,
                  first_run,
                  subst (λ x. Called x b.world r.asked) z.world r.called,
                  r.calls ∙ ap
                      (λ ns. ns ++ r.asked) z.calls,
                );
            turn = stays_trans i.turn r.turn;
            at_moment = r.moment ∙ i.at_moment;
            idle = r.idle;
            news_from = r.news_from ∙ i.news_from;
          }
      | inr z ↦
          let k : suc events ≡ events + 1 = omega arith in
          let state : a.cx.log.state ≡ replay start.cx.log.state z.es = z.by.state in
          let next : next_in (replay start.cx.log.state z.es).pending z.left ≡ Some (event.number, a.cx.calls)
          =
          subst (λ (t : State). next_in t.pending z.left ≡ Some (event.number, a.cx.calls)) state z.next in
          let run : IsRun (replay start.cx.log.state z.es) moment event.number r.asked r.run = subst
          (λ (t : State). IsRun t moment event.number r.asked r.run) state is_run in
          let all = runs_more Called start.world a.world b.world start.cx.log.state moment first [] events
          z.es z.left event.number a.cx.calls r.asked r.run z.runs next run r.called in
          record {
            es = z.es ++ r.run;
            by = extends_trans z.by r.by;
            runs = subst (λ n. RunsFrom Called start.world b.world start.cx.log.state moment first [] n
                (z.es ++ r.run) b.cx.calls) k
                (subst (λ q. RunsFrom Called start.world b.world start.cx.log.state moment first []
                (suc events) (z.es ++ r.run) q) (sym r.calls) all);
            turn = stays_trans i.turn r.turn;
            at_moment = r.moment ∙ i.at_moment;
            idle = r.idle;
            news_from = r.news_from ∙ i.news_from;
          }
    ]

pub handles : {W Q R T U : Type 0} (Called : W → W → List ℕ → Type 0) (start now : Group W Q R T U)
    (moment first events : ℕ)
    → HasRunAll Called start now moment first events → 1 ≤ events → events ≤ MOST_EVENTS
    → Handles Called start now first moment events
handles Called start now moment first events r some most = record {
  some = some;
  most = most;
  es = r.es;
  by = r.by;
  runs = r.runs;
  turn = r.turn;
  rise = ap (λ (t : State). t.handled_count) r.by.state
      ∙ runs_rise Called start.world now.world start.cx.log.state moment first [] events r.es now.cx.calls
      r.runs;
  now = r.at_moment;
  idle = r.idle;
  news_from = r.news_from;
}

-- a direct call that waits is handled next
pub run_next : {W Q R T U : Type 0} (Called : W → W → List ℕ → Type 0) (start a b : Group W Q R T U)
    (moment first events : ℕ) (event : Pending)
    → HasRunAll Called start a moment first events → b.world ≡ a.world
    → IsSame (record a.cx { calls = b.cx.calls }) b.cx
    → next_in a.cx.log.state.pending a.cx.calls ≡ Some (event.number, b.cx.calls)
    → IsReady b.cx.log b.cx.moment event
    → InRun Called start b moment first events event
run_next Called start a b moment first events event r w s n ready =
    let m : b.cx.moment ≡ moment = s.moment ∙ r.at_moment in
    record {
      turn = stays_same s.log.state r.turn;
      at_moment = m;
      news_from = s.news_from ∙ r.news_from;
      ready = subst (λ x. IsReady b.cx.log x event) m ready;
      so_far = inr (record {
        es = r.es;
        left = a.cx.calls;
        by = extends_before r.by s.log;
        runs = subst (λ v. RunsFrom Called start.world v start.cx.log.state moment first [] events r.es
            a.cx.calls) (sym w) r.runs;
        next = ap (λ (t : State). next_in t.pending a.cx.calls) s.log.state ∙ n;
      });
    }

-- none of the calls that wait is pending: the run ends
pub handles_none : {W Q R T U : Type 0} (Called : W → W → List ℕ → Type 0) (start a b : Group W Q R T U)
    (moment first events : ℕ)
    → HasRunAll Called start a moment first events → 1 ≤ events → events ≤ MOST_EVENTS → b.world ≡ a.world
    → IsSame (record a.cx { calls = b.cx.calls }) b.cx
    → b.cx.calls ≡ a.cx.calls → next_in a.cx.log.state.pending a.cx.calls ≡ None
    → Handles Called start b first moment events ×
    (events < MOST_EVENTS → next_in b.cx.log.state.pending b.cx.calls ≡ None)
handles_none Called start a b moment first events r some most w s same none =
    let none_left : next_in b.cx.log.state.pending b.cx.calls ≡ None =
    ap (λ (t : State). next_in t.pending b.cx.calls) s.log.state ∙ ap (λ q. next_in a.cx.log.state.pending q)
    same ∙ none in
    let all : HasRunAll Called start b moment first events = record {
      es = r.es;
      by = extends_before r.by s.log;
      runs = subst (λ v. RunsFrom Called start.world v start.cx.log.state moment first [] events r.es
          b.cx.calls) (sym w)
          (subst (λ q. RunsFrom Called start.world a.world start.cx.log.state moment first [] events r.es q)
          (sym same) r.runs);
      turn = stays_same s.log.state r.turn;
      at_moment = s.moment ∙ r.at_moment;
      idle = s.running ∙ r.idle;
      news_from = s.news_from ∙ r.news_from;
    } in
    (handles Called start b moment first events all some most, λ lt. none_left)
