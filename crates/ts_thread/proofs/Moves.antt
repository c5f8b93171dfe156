-- How one group goes on: in a turn that it has, and over whole turns.
use Rattle.std.proofs.Common.{◌≡◌, ◌⊎◌, ℕ, ◌+◌, ◌*◌, ◌<◌, ◌≤◌, max, Bool, true, false, cond, List, [], Option, Some, None, Result, Ok, ◌++◌, inl, inr, refl, ap, sym, ◌∙◌, subst, arith}
use Rattle.std.specs.Bool.{OnTrue}
use Rattle.std.specs.Result.{IsErrOf}
use Rattle.ts_journal.specs.declared.entry.ContKey.{ContKey}
use Rattle.ts_journal.specs.declared.entry.Pending.{Pending}
use Rattle.ts_journal.specs.declared.entry.Entry.{Entry}
use Rattle.ts_journal.specs.declared.entry.Entry.TheVariants.{Took, Gave}
use Rattle.ts_journal.specs.State.{State, pending_at, IsLive}
use Rattle.ts_journal.specs.Machine.{IsValid, after}
use Rattle.ts_journal.specs.Log.{Extends}
use Rattle.ts_journal.specs.Later.{IsLater}
use Rattle.ts_journal.proofs.Extends.{same_refl, extends_none, extends_trans}
use Rattle.ts_journal.proofs.Later.{later_refl, later_trans, extends_later}
use Rattle.ts_group.specs.declared.slot.TheConstants.{MOST_IN_TURN}
use Rattle.ts_group.specs.declared.action.Named.{Named}
use Rattle.ts_group.specs.declared.group.Group.{Group}
use Rattle.ts_group.specs.Context.{IsSame, own_key}
use Rattle.ts_group.specs.declared.group.TheConstants.{MOST_EVENTS}
use Rattle.ts_group.specs.declared.world.TheConstants.{MOST_SET}
use Rattle.ts_group.specs.Calls.{Handles}
use Rattle.ts_group.specs.Changes.{StaysInTurn}
use Rattle.ts_group.specs.Entries.{Grows, CanBeAsked}
use Rattle.ts_group.specs.Acts.{BeginsTurn, GivesTurn}
use Rattle.ts_group.specs.Slot.{IsAtRest}
use Rattle.ts_group.specs.Due.{IsDueFirst}
use Rattle.ts_group.specs.Answers.{Holds, Falls, LeavesLess, KeepsTags, SetsAtMost, SetsQuestion, IsSameGroup}
use Rattle.ts_group.proofs.Keeps.{falls_refl, falls_trans}
use Rattle.ts_thread.specs.declared.TheConstants.{MOST_TURNS}
use Rattle.ts_thread.specs.declared.did.Unfinished.{Unfinished}
use Rattle.ts_thread.specs.declared.did.Unfinished.TheVariants as unfinished
use Rattle.ts_thread.specs.Tags.{GroupFits}
use Rattle.ts_thread.specs.Alone.{HandlesQuestion}
use Rattle.ts_thread.proofs.Alone.{takes_none, takes_on, takes_over, one_turn, first_after, asks_after}
use Rattle.ts_thread.proofs.Entries.{runs_first}
use Rattle.ts_thread.specs.Goings.{IsLaterGroup, HasTakenTurns, WorksOn, ComesNext}

-- what falls by so much falls by less
pub falls_less : (a b : Option ℕ) (m n : ℕ) → n ≤ m → Falls a m b → Falls a n b
falls_less None b m n le f = tt
falls_less (Some x) None m n le f = absurd f
falls_less (Some x) (Some y) m n le f = omega arith

-- only what has nothing pending is only asked
not_asked : (oa : Bool) (s : State) (number : ℕ) (p : Pending) → OnTrue oa (s.pending ≡ [])
    → pending_at number s.pending ≡ Some p → oa ≡ false
not_asked false s number p none there = refl
not_asked true s number p none there = let h : pending_at number [] ≡ Some p = sym
    (ap (pending_at number) none) ∙ there in absurd (cc)

-- where an event comes next, one is pending
pub next_pending : (s : State) (moment number : ℕ) → IsDueFirst s moment number → s.pending ≡ [] → ⊥
next_pending s moment number due none =
    let there : pending_at number s.pending ≡ Some due.0 = subst
    (λ (n : ℕ). pending_at n s.pending ≡ Some due.0) due.3 due.1.0 in
    let h : pending_at number [] ≡ Some due.0 = sym (ap (pending_at number) none) ∙ there in absurd (cc)

-- one event more may be set in one turn more
rest_on : (b : Bool) (n t m u : ℕ) → n ≤ cond b (t + 1) (MOST_IN_TURN * t + 1) → m ≤ n + 1 → u ≡ t + 1
    → m ≤ cond b (u + 1) (MOST_IN_TURN * u + 1)
rest_on true n t m u a b c = omega arith
rest_on false n t m u a b c = omega arith

none_on : (b : Bool) (old new : State) → OnTrue b (old.pending ≡ []) → (old.pending ≡ [] → new.pending ≡ [])
    → OnTrue b (new.pending ≡ [])
none_on true old new none stays = stays none
none_on false old new none stays = tt

-- turns within the bound
within_same : (limit t u : ℕ) → u ≡ t → u ≤ max t limit
within_same limit t u same = omega arith

within_one : (limit t u : ℕ) → t < limit → u ≡ t + 1 → u ≤ max t limit
within_one limit t u young is = omega arith

within_on : (limit t u v : ℕ) → u ≤ max t limit → v ≤ max u limit → v ≤ max t limit
within_on limit t u v a b = omega arith

-- a turn that is taken, and one that is given back, lead to a state that does not go back
took_later : (s t : State) (turn seat : ℕ) → s.turns < turn → t ≡ after s (Took turn seat) → IsLater s t
took_later s t turn seat more is = subst (IsLater s) (sym is) (record {
  turns = omega arith;
  next = omega arith;
  set = omega arith;
  handled = omega arith;
  cancelled = omega arith;
  dropped = omega arith;
  given = λ i. omega arith;
  closed = λ n below gone. gone;
  dead = λ key past gone live. gone live;
})

gave_later : (s t : State) (turn : ℕ) → t ≡ after s (Gave turn) → IsLater s t
gave_later s t turn is = subst (IsLater s) (sym is) (record {
  turns = omega arith;
  next = omega arith;
  set = omega arith;
  handled = omega arith;
  cancelled = omega arith;
  dropped = omega arith;
  given = λ i. omega arith;
  closed = λ n below gone. gone;
  dead = λ key past gone live. gone live;
})

pub later_same : {W Q R T U : Type 0} (g h : Group W Q R T U) → IsSame g.cx h.cx → IsLaterGroup g h
later_same g h same = record {
  made = ap (λ b. b.made) same.log.base;
  later = subst (IsLater g.cx.log.state)
      (sym same.log.state) (later_refl g.cx.log.state);
}

later_on : {W Q R T U : Type 0} (g h k : Group W Q R T U) → IsLaterGroup g h → IsLaterGroup h k
    → IsLaterGroup g k
later_on g h k a b = record {
  made = b.made ∙ a.made;
  later = later_trans g.cx.log.state h.cx.log.state
      k.cx.log.state a.later b.later;
}

-- a turn is taken, the state goes on in it, and it is given back
over_turn : {W Q R T U : Type 0} (g0 g1 g2 g3 : Group W Q R T U) (turn moment : ℕ)
    → g0.cx.log.state.turns < turn → BeginsTurn g0.cx g1.cx turn 0 moment → g2.cx.log.base ≡ g1.cx.log.base
    → IsLater g1.cx.log.state g2.cx.log.state → GivesTurn g2.cx g3.cx → IsLaterGroup g0 g3
over_turn g0 g1 g2 g3 turn moment more begins base on gives = record {
  made = gives.by.made ∙ ap (λ b. b.made) (base ∙ begins.by.base);
  later = later_trans g0.cx.log.state g1.cx.log.state g3.cx.log.state
      (took_later g0.cx.log.state g1.cx.log.state turn 0 more begins.state)
      (later_trans g1.cx.log.state g2.cx.log.state g3.cx.log.state on
      (gave_later g2.cx.log.state g3.cx.log.state g2.cx.log.state.turns gives.state));
}

module _ {W Q R T U : Type 0} (Fits : T → W → Type 0) (Sound : W → State → List Named → Type 0)
    (oa isf : T → Bool) (Left : W → State → Option ℕ) (limit : ℕ) where
  pub goes_refl : {r : Result (Unit {0}) Unfinished} (g : Group W Q R T U) (n : ℕ)
      → HasTakenTurns Fits Sound oa isf Left limit r g g n
  goes_refl {r = r} g n = record {
    fits = λ t f. f;
    tags = λ t f. f;
    took = omega arith;
    within = omega arith;
    falls = λ well. falls_refl (Left g.world g.cx.log.state);
    nothing = λ e. e;
    takes = takes_none (IsErrOf r unfinished.NoMemory) g.cx.log g.cx.log n (same_refl g.cx.log);
    later = record { made = refl; later = later_refl g.cx.log.state };
  }

  pub goes_trans : {r : Result (Unit {0}) Unfinished} (g h k : Group W Q R T U) (m n : ℕ)
      → HasTakenTurns Fits Sound oa isf Left limit r g h m
      → HasTakenTurns Fits Sound oa isf Left limit r h k n
      → HasTakenTurns Fits Sound oa isf Left limit r g k (m + n)
  goes_trans {r = r} g h k m n a b = record {
    fits = λ t f. b.fits t (a.fits t f);
    tags = λ t f. b.tags t (a.tags t f);
    took = let x = a.took in let y = b.took in omega arith;
    within = within_on limit g.cx.log.state.turns h.cx.log.state.turns k.cx.log.state.turns a.within b.within;
    falls = λ well. falls_trans (Left g.world g.cx.log.state) (Left h.world h.cx.log.state)
        (Left k.world k.cx.log.state) 0 0 (a.falls well) (b.falls well);
    nothing = λ e. b.nothing (a.nothing e);
    takes = takes_on (IsErrOf r unfinished.NoMemory) g.cx.log h.cx.log k.cx.log m n a.takes b.takes;
    later = later_on g h k a.later b.later;
  }

  -- a turn in which an event was handled that was due
  pub stepped : {r : Result (Unit {0}) Unfinished} (g0 g1 g2 g3 : Group W Q R T U) (turn moment number : ℕ)
      → ComesNext g0 number moment → g0.cx.log.state.turns < limit → turn ≡ g0.cx.log.state.turns + 1
      → BeginsTurn g0.cx g1.cx turn 0 moment → g1.world ≡ g0.world
      → Left g1.world g1.cx.log.state ≡ Left g0.world g0.cx.log.state
      → WorksOn Fits Sound Left r g1 g2
      → GivesTurn g2.cx g3.cx → g3.world ≡ g2.world
      → Left g3.world g3.cx.log.state ≡ Left g2.world g2.cx.log.state → Holds Sound g3
      → HasTakenTurns Fits Sound oa isf Left limit r g0 g3 1
  stepped {r = r} g0 g1 g2 g3 turn moment number due young is begins same left works gives still left_too
      sound =
      let there : pending_at number g0.cx.log.state.pending ≡ Some due.0 = subst
      (λ (n : ℕ). pending_at n g0.cx.log.state.pending ≡ Some due.0) due.3 due.1.0 in
      let next1 : g1.cx.log.state.next ≡ g0.cx.log.state.next = ap (λ (s : State). s.next) begins.state in
      let turns1 : g1.cx.log.state.turns ≡ turn = ap (λ (s : State). s.turns) begins.state in
      let next3 : g3.cx.log.state.next ≡ g2.cx.log.state.next = ap (λ (s : State). s.next) gives.state in
      let turns3 : g3.cx.log.state.turns ≡ g2.cx.log.state.turns = ap (λ (s : State). s.turns) gives.state in
      let turns2 : g2.cx.log.state.turns ≡ g1.cx.log.state.turns = works.turn.turns in
      let tags : KeepsTags Fits g0.world g3.world = λ t f. subst (λ (w : W). Fits t w) (sym still)
      (works.tags t (subst (λ (w : W). Fits t w) (sym same) f)) in
      record {
        fits = λ t f.
            let few : g2.cx.log.state.next ≤ g1.cx.log.state.next + MOST_IN_TURN = works.few t
            (subst (λ (w : W). Fits t w) (sym same) f.0) in
            let rest = f.2 in
            let other : oa t ≡ false = not_asked (oa t) g0.cx.log.state number due.0 rest.2 there in
            let was : g0.cx.log.state.next ≤ MOST_IN_TURN * g0.cx.log.state.turns + 1 = subst
            (λ (b : Bool). g0.cx.log.state.next ≤ cond b (g0.cx.log.state.turns + 1)
            (MOST_IN_TURN * g0.cx.log.state.turns + 1)) other rest.1 in
            let now : g3.cx.log.state.next ≤ MOST_IN_TURN * g3.cx.log.state.turns + 1 = omega arith in (
              tags t f.0,
              sound,
              (
                ap (λ (s : State). s.held) gives.state,
                subst (λ (b : Bool). g3.cx.log.state.next ≤ cond b (g3.cx.log.state.turns + 1)
                    (MOST_IN_TURN * g3.cx.log.state.turns + 1)) (sym other) now,
                subst (λ (b : Bool). OnTrue b (g3.cx.log.state.pending ≡ [])) (sym other) tt,
              ),
              subst (λ (made : ℕ). OnTrue (isf t) (made ≡ 0))
                  (sym (gives.by.made ∙ ap (λ b. b.made) (works.by.base ∙ begins.by.base))) f.3,
            );
        tags = tags;
        took = omega arith;
        within = within_one limit g0.cx.log.state.turns g3.cx.log.state.turns young (omega arith);
        falls = λ well. subst (λ (x : Option ℕ). Falls x 0 (Left g3.world g3.cx.log.state)) left
            (subst (λ (x : Option ℕ). Falls (Left g1.world g1.cx.log.state) 0 x) (sym left_too)
            (works.falls well));
        nothing = λ none. absurd (next_pending g0.cx.log.state moment number due none);
        takes = one_turn (IsErrOf r unfinished.NoMemory) g0.cx g1.cx g2.cx g3.cx turn moment works.did is
            begins works.by (works.turn.turns)
            (first_after (IsErrOf r unfinished.NoMemory) g0.cx g1.cx turn moment works.did begins works.first)
            gives;
        later = over_turn g0 g1 g2 g3 turn moment (omega arith) begins works.by.base works.later gives;
      }

  -- a group that is the same but for its room
  pub same_goes : {r : Result (Unit {0}) Unfinished} (g h : Group W Q R T U) (n : ℕ) → IsSame g.cx h.cx
      → h.world ≡ g.world → HasTakenTurns Fits Sound oa isf Left limit r g h n
  same_goes {r = r} g h n cx world =
      let state : h.cx.log.state ≡ g.cx.log.state = cx.log.state in
      record {
        fits = λ t f.
            let fit : Fits t h.world = subst (λ (w : W). Fits t w) (sym world) f.0 in
            let sound : Sound h.world h.cx.log.state h.cx.roles = subst
            (λ (x : W × State × List Named). Sound x.0 x.1 x.2)
            (λ i. (sym world i, sym state i, sym cx.roles i)) f.1 in
            let rest : IsAtRest (oa t) h.cx.log.state = subst (λ (s : State). IsAtRest (oa t) s) (sym state)
            f.2 in (
              fit,
              sound,
              rest,
              subst (λ (made : ℕ). OnTrue (isf t) (made ≡ 0))
                  (sym (ap (λ b. b.made) cx.log.base)) f.3,
            );
        tags = λ t f. subst (λ (w : W). Fits t w) (sym world) f;
        took = let e = ap (λ (s : State). s.turns) state in omega arith;
        within = let e = ap (λ (s : State). s.turns) state in within_same limit g.cx.log.state.turns
            h.cx.log.state.turns e;
        falls = λ well. subst (λ (x : W × State). Falls (Left g.world g.cx.log.state) 0 (Left x.0 x.1))
            (λ i. (sym world i, sym state i)) (falls_refl (Left g.world g.cx.log.state));
        nothing = λ e. ap (λ (s : State). s.pending) state ∙ e;
        takes = takes_none (IsErrOf r unfinished.NoMemory) g.cx.log h.cx.log n cx.log;
        later = later_same g h cx;
      }

  pub same_works : {r : Result (Unit {0}) Unfinished} (g h : Group W Q R T U) → g.cx.log.state.held ≡ true
      → Holds Sound g → IsSameGroup g h → IsErrOf r unfinished.NoMemory → WorksOn Fits Sound Left r g h
  same_works g h held sound same lack =
      let state : h.cx.log.state ≡ g.cx.log.state = same.cx.log.state in
      record {
        turn = record {
          held = ap (λ (s : State). s.held) state ∙ held;
          turns = ap (λ (s : State). s.turns)
              state;
        };
        did = [];
        by = extends_none g.cx.log h.cx.log same.cx.log;
        first = inl (lack, refl);
        later = (later_same g h same.cx).later;
        tags = λ t f. subst (λ (w : W). Fits t w) (sym same.world) f;
        sound = subst (λ (x : W × State × List Named). Sound x.0 x.1 x.2)
            (λ i. (sym same.world i, sym state i, sym same.cx.roles i)) sound;
        few = λ t f. let e = ap (λ (s : State). s.next) state in omega arith;
        falls = λ well. subst (λ (x : W × State). Falls (Left g.world g.cx.log.state) 0 (Left x.0 x.1))
            (λ i. (sym same.world i, sym state i)) (falls_refl (Left g.world g.cx.log.state));
      }

  -- an event was handled in a turn
  pub handled_works : {r : Result (Unit {0}) Unfinished} (Called : W → W → List ℕ → Type 0)
      (g h : Group W Q R T U) (number moment events : ℕ) → ComesNext g number moment → IsValid g.cx.log.state
      → Handles Called g h number moment events
      → KeepsTags Fits g.world h.world → Holds Sound h
      → SetsAtMost Fits g.world (MOST_EVENTS * (MOST_SET + 1)) g.cx h.cx → LeavesLess Left g events h
      → WorksOn Fits Sound Left r g h
  handled_works Called g h number moment events due valid handles tags sound few falls = record {
    did = handles.es;
    by = handles.by;
    first = inr (let begin = runs_first Called g.world h.world g.cx.log.state moment number [] events
        handles.es h.cx.calls handles.runs in record
        { number = number; due = moment; first = due; others = begin.rest; are = begin.is });
    turn = handles.turn;
    later = extends_later g.cx.log h.cx.log handles.es valid handles.by;
    tags = tags;
    sound = sound;
    few = λ t f. let n = few t f in omega arith;
    falls = λ well. falls_less (Left g.world g.cx.log.state) (Left h.world h.cx.log.state) events 0
        (omega arith) falls;
  }

  -- and the handler was told what came of its question
  pub told_works : {r : Result (Unit {0}) Unfinished} (Called : W → W → List ℕ → Type 0)
      (g h k : Group W Q R T U) (number moment events : ℕ) → ComesNext g number moment
      → IsValid g.cx.log.state → IsValid h.cx.log.state → Handles Called g h number moment events
      → KeepsTags Fits g.world h.world → SetsAtMost Fits g.world (MOST_EVENTS * (MOST_SET + 1)) g.cx h.cx
      → LeavesLess Left g events h
      → Grows h.cx k.cx → StaysInTurn h.cx.log.state k.cx.log.state → Holds Sound k
      → KeepsTags Fits h.world k.world → SetsAtMost Fits h.world MOST_SET h.cx k.cx
      → ((IsErrOf r unfinished.Worn → ⊥) → LeavesLess Left h 0 k)
      → WorksOn Fits Sound Left r g k × ((IsErrOf r unfinished.Worn → ⊥) → LeavesLess Left g 1 k)
  told_works {r = r} Called g h k number moment events due valid valid' handles tags few falls grows turn
      sound tags' few' falls' =
      let some : 1 ≤ events = handles.some in
      let begin = runs_first Called g.world h.world g.cx.log.state moment number [] events handles.es
      h.cx.calls handles.runs in
      let less : (IsErrOf r unfinished.Worn → ⊥) → LeavesLess Left g (events + 0) k =
      λ well. falls_trans (Left g.world g.cx.log.state) (Left h.world h.cx.log.state)
      (Left k.world k.cx.log.state) events 0 falls (falls' well) in (
        record {
          did = handles.es ++ grows.log.own;
          by = extends_trans handles.by grows.log.by;
          first = inr (record {
            number = number;
            due = moment;
            first = due;
            others = begin.rest ++ grows.log.own;
            are = ap (λ (xs : List Entry). xs ++ grows.log.own) begin.is;
          });
          turn = record { held = turn.held; turns = turn.turns ∙ handles.turn.turns };
          later = later_trans g.cx.log.state h.cx.log.state k.cx.log.state
              (extends_later g.cx.log h.cx.log handles.es valid handles.by)
              (extends_later h.cx.log k.cx.log grows.log.own valid' grows.log.by);
          tags = λ t f. tags' t (tags t f);
          sound = sound;
          few = λ t f. let n = few t f in let m = few' t (tags t f) in omega arith;
          falls = λ well. falls_less (Left g.world g.cx.log.state) (Left k.world k.cx.log.state) (events + 0)
              0 (omega arith) (less well);
        },
        λ well. falls_less (Left g.world g.cx.log.state) (Left k.world k.cx.log.state) (events + 0) 1
            (omega arith) (less well),
      )

  -- a turn in which a group was asked
  pub asked_goes : {r : Result (Unit {0}) Unfinished} (g0 g1 g2 g3 : Group W Q R T U) (turn moment : ℕ)
      (tag : T) → GroupFits Fits Sound oa isf tag g0 → g0.cx.log.state.turns < limit
      → turn ≡ g0.cx.log.state.turns + 1
      → BeginsTurn g0.cx g1.cx turn 0 moment → g1.world ≡ g0.world
      → Left g1.world g1.cx.log.state ≡ Left g0.world g0.cx.log.state
      → SetsQuestion Fits g1.world g1.cx g2.cx → KeepsTags Fits g1.world g2.world → (did : List Entry)
      → Extends g1.cx.log g2.cx.log did → ((IsErrOf r unfinished.NoMemory × (did ≡ [])) ⊎ HandlesQuestion
      g1.cx.log.state did) → IsLater g1.cx.log.state g2.cx.log.state → g2.cx.log.state.turns ≡
      g1.cx.log.state.turns → LeavesLess Left g1 0 g2
      → GivesTurn g2.cx g3.cx → g3.world ≡ g2.world
      → Left g3.world g3.cx.log.state ≡ Left g2.world g2.cx.log.state → Holds Sound g3
      → HasTakenTurns Fits Sound oa isf Left limit r g0 g3 1
  asked_goes {r = r} g0 g1 g2 g3 turn moment tag fit young is begins same left sets keeps did by asks later
      turns2 less gives still left_too sound =
      let next1 : g1.cx.log.state.next ≡ g0.cx.log.state.next = ap (λ (s : State). s.next) begins.state in
      let turns1 : g1.cx.log.state.turns ≡ turn = ap (λ (s : State). s.turns) begins.state in
      let next3 : g3.cx.log.state.next ≡ g2.cx.log.state.next = ap (λ (s : State). s.next) gives.state in
      let turns3 : g3.cx.log.state.turns ≡ g2.cx.log.state.turns = ap (λ (s : State). s.turns) gives.state in
      let set = sets tag (subst (λ (w : W). Fits tag w) (sym same) fit.0) in
      let few : g2.cx.log.state.next ≤ g1.cx.log.state.next + 1 = set.0 in
      let nothing : g0.cx.log.state.pending ≡ []
      → g3.cx.log.state.pending ≡ [] = λ none. ap (λ (s : State). s.pending) gives.state ∙ set.1
      (ap (λ (s : State). s.pending) begins.state ∙ none) in
      let tags : KeepsTags Fits g0.world g3.world = λ t f. subst (λ (w : W). Fits t w) (sym still)
      (keeps t (subst (λ (w : W). Fits t w) (sym same) f)) in
      record {
        fits = λ t f. (
          tags t f.0,
          sound,
          (
            ap (λ (s : State). s.held) gives.state,
            rest_on (oa t) g0.cx.log.state.next g0.cx.log.state.turns g3.cx.log.state.next
                g3.cx.log.state.turns f.2.1 (omega arith) (omega arith),
            none_on (oa t) g0.cx.log.state g3.cx.log.state f.2.2 nothing,
          ),
          subst (λ (made : ℕ). OnTrue (isf t) (made ≡ 0))
              (sym (gives.by.made ∙ ap (λ b. b.made) (by.base ∙ begins.by.base))) f.3,
        );
        tags = tags;
        took = omega arith;
        within = within_one limit g0.cx.log.state.turns g3.cx.log.state.turns young (omega arith);
        falls = λ well. subst (λ (x : Option ℕ). Falls x 0 (Left g3.world g3.cx.log.state)) left
            (subst (λ (x : Option ℕ). Falls (Left g1.world g1.cx.log.state) 0 x) (sym left_too) less);
        nothing = nothing;
        takes = one_turn (IsErrOf r unfinished.NoMemory) g0.cx g1.cx g2.cx g3.cx turn moment did is begins by
            turns2 (asks_after (IsErrOf r unfinished.NoMemory) g0.cx g1.cx turn moment did begins asks) gives;
        later = over_turn g0 g1 g2 g3 turn moment (omega arith) begins by.base later gives;
      }

  -- nothing was asked, for want of memory
  pub same_asked : (g h : Group W Q R T U) → IsSameGroup g h → SetsQuestion Fits g.world g.cx h.cx
  same_asked g h same = λ t f. (
    (let e = ap (λ (s : State). s.next) same.cx.log.state in omega arith),
    (λ none. ap (λ (s : State). s.pending) same.cx.log.state ∙ none),
  )

  -- a group that is only asked can be asked once its turn has begun
  pub can_ask : (g0 g1 : Group W Q R T U) (turn moment : ℕ) (tag : T) → GroupFits Fits Sound oa isf tag g0
      → oa tag ≡ true → g0.cx.log.state.turns < limit → limit ≤ MOST_TURNS
      → OnTrue (oa tag) (IsLive g0.cx.log.state.live own_key) → BeginsTurn g0.cx g1.cx turn 0 moment
      → CanBeAsked g1.cx.log.state
  can_ask g0 g1 turn moment tag fit asked young low rests begins =
      let next1 : g1.cx.log.state.next ≡ g0.cx.log.state.next = ap (λ (s : State). s.next) begins.state in
      let was : g0.cx.log.state.next ≤ g0.cx.log.state.turns + 1 = subst
      (λ (b : Bool). g0.cx.log.state.next ≤ cond b (g0.cx.log.state.turns + 1)
      (MOST_IN_TURN * g0.cx.log.state.turns + 1)) asked fit.2.1 in
      let live : IsLive g0.cx.log.state.live own_key = subst
      (λ (b : Bool). OnTrue b (IsLive g0.cx.log.state.live own_key)) asked rests in
      record {
        turn = ap (λ (s : State). s.held) begins.state;
        live = subst (λ (keys : List ContKey). IsLive keys own_key)
            (sym (ap (λ (s : State). s.live) begins.state)) live;
        unspent = omega arith;
      }

  -- what a group becomes where all goes well, it becomes with any answer
  pub goes_well : {r : Result (Unit {0}) Unfinished} (g h : Group W Q R T U) (n : ℕ)
      → HasTakenTurns Fits Sound oa isf Left limit (Ok tt) g h n
      → HasTakenTurns Fits Sound oa isf Left limit r g h n
  goes_well {r} g h n t = record {
    fits = t.fits;
    tags = t.tags;
    takes = takes_over well_known g.cx.log h.cx.log n t.takes;
    took = t.took;
    within = t.within;
    falls = λ _. t.falls never_worn;
    nothing = t.nothing;
    later = t.later;
  }
    where
      never_worn : IsErrOf {T = Unit {0}} (Ok tt) unfinished.Worn → ⊥
      never_worn e = absurd (cc)

      well_known : IsErrOf {T = Unit {0}} (Ok tt) unfinished.NoMemory → IsErrOf r unfinished.NoMemory
      well_known e = absurd (cc)
