-- Turns of a journal that nobody else has.
use Rattle.std.proofs.Common.{◌≡◌, ◌⊎◌, inl, inr, ℕ, zero, suc, ◌+◌, List, [], ◌∷◌, ◌++◌, refl, ap, sym, ◌∙◌, subst, arith, append_assoc, append-nil}
use Rattle.ts_journal.specs.declared.entry.Entry.{Entry}
use Rattle.ts_journal.specs.declared.entry.Entry.TheVariants.{Took, Gave}
use Rattle.ts_journal.specs.State.{State}
use Rattle.ts_journal.specs.Machine.{replay}
use Rattle.ts_journal.specs.Log.{Log, Extends, GoesOn, IsSameLog}
use Rattle.ts_journal.proofs.Folding.{goes_on_extends, goes_on_same, goes_on_trans}
use Rattle.ts_journal.proofs.Lawful.{replay-append}
use Rattle.ts_group.specs.Context.{Context}
use Rattle.ts_group.specs.Entries.{asking_entries}
use Rattle.ts_group.specs.Acts.{BeginsTurn, GivesTurn}
use Rattle.ts_group.specs.Due.{IsDueFirst}
use Rattle.ts_thread.specs.Alone.{HandlesDue, HandlesQuestion, IsOwnTurn, AreOwnTurns, TakesTurns}

module _ (Lack : Type 0) where
  turns_append : (m n : ℕ) (s : State) (es fs : List Entry) → AreOwnTurns Lack m s es
      → AreOwnTurns Lack n (replay s es) fs → AreOwnTurns Lack (m + n) s (es ++ fs)
  turns_append zero n s es fs none b =
      let count : n ≡ 0 + n = omega arith in
      subst (λ (k : ℕ). AreOwnTurns Lack k s (es ++ fs)) count
      (subst (λ (xs : List Entry). AreOwnTurns Lack n s (xs ++ fs)) (sym none)
      (subst (λ (xs : List Entry). AreOwnTurns Lack n (replay s xs) fs) none b))
  turns_append (suc m) n s es fs (turn, others, is, are, rest) b =
      let count : suc (m + n) ≡ suc m + n = omega arith in
      let state : replay s es ≡ replay (replay s turn) others = ap (replay s) are ∙ replay-append s turn
      others in
      let all : AreOwnTurns Lack (suc (m + n)) s (es ++ fs) = (
        turn,
        others ++ fs,
        is,
        ap (λ (xs : List Entry). xs ++ fs) are ∙ append_assoc turn others fs,
        turns_append m n (replay s turn) others fs rest
            (subst (λ (t : State). AreOwnTurns Lack n t fs) state b),
      ) in
      subst (λ (k : ℕ). AreOwnTurns Lack k s (es ++ fs)) count all

  pub takes_none : (a b : Log) (n : ℕ) → IsSameLog a b → TakesTurns Lack a b n
  takes_none a b n same = record {
    turns = 0;
    few = omega arith;
    added = [];
    by = goes_on_same a b same;
    are =
        refl;
  }

  pub takes_on : (a b c : Log) (m n : ℕ) → TakesTurns Lack a b m → TakesTurns Lack b c n
      → TakesTurns Lack a c (m + n)
  takes_on a b c m n p q = record {
    turns = p.turns + q.turns;
    few = let x = p.few in let y = q.few in omega arith;
    added = p.added ++ q.added;
    by = goes_on_trans p.by q.by;
    are = turns_append p.turns q.turns a.state p.added q.added p.are
        (subst (λ (s : State). AreOwnTurns Lack q.turns s q.added) p.by.state q.are);
  }

  -- what is done in a turn, which is taken before and given back after it
  pub one_turn : (a b c d : Context) (turn moment : ℕ) (did : List Entry) → turn ≡ a.log.state.turns + 1
      → BeginsTurn a b turn 0 moment → Extends b.log c.log did → c.log.state.turns ≡ b.log.state.turns
      → ((Lack × (did ≡ [])) ⊎ HandlesDue a.log.state did ⊎ HandlesQuestion a.log.state did) → GivesTurn c d
      → TakesTurns Lack a.log d.log 1
  one_turn a b c d turn moment did is begins by turns first gives =
      let all : GoesOn a.log d.log ((Took turn 0 ∷ []) ++ (did ++ (Gave c.log.state.turns ∷ []))) =
      goes_on_trans (goes_on_extends a.log b.log (Took turn 0 ∷ []) begins.by)
      (goes_on_trans (goes_on_extends b.log c.log did by) gives.by) in
      let turn_b : b.log.state.turns ≡ turn = ap (λ (s : State). s.turns) begins.state in
      let gave : c.log.state.turns ≡ a.log.state.turns + 1 = turns ∙ turn_b ∙ is in
      let whole : List Entry = Took turn 0 ∷ (did ++ (Gave c.log.state.turns ∷ [])) in
      let own : IsOwnTurn Lack a.log.state whole = record {
        did = did;
        are = λ i. Took (is i) 0 ∷ (did ++ (Gave (gave i) ∷ []));
        first = first;
      } in
      record {
        turns = 1;
        few = omega arith;
        added = whole;
        by = all;
        are = (whole, [], own, sym (append-nil whole), refl);
      }

  -- what was due first before the turn was taken, is due first in it
  pub first_after : (a b : Context) (turn moment : ℕ) (did : List Entry) → BeginsTurn a b turn 0 moment
      → ((Lack × (did ≡ [])) ⊎ HandlesDue b.log.state did)
      → ((Lack × (did ≡ [])) ⊎ HandlesDue a.log.state did ⊎ HandlesQuestion a.log.state did)
  first_after a b turn moment did begins first = elim first [
    | inl none ↦ inl none
    | inr h ↦ inr (inl (record {
      number = h.number;
      due = h.due;
      first = subst (λ (s : State). IsDueFirst s h.due h.number) begins.state h.first;
      others = h.others;
      are = h.are;
    }))
  ]

  pub asks_after : (a b : Context) (turn moment : ℕ) (did : List Entry) → BeginsTurn a b turn 0 moment
      → ((Lack × (did ≡ [])) ⊎ HandlesQuestion b.log.state did)
      → ((Lack × (did ≡ [])) ⊎ HandlesDue a.log.state did ⊎ HandlesQuestion a.log.state did)
  asks_after a b turn moment did begins first = elim first [
    | inl none ↦ inl none
    | inr h ↦ inr (inr (record {
      moment = h.moment;
      others = h.others;
      are = h.are ∙ ap (λ (s : State). asking_entries s.next h.moment ++ h.others) begins.state;
    }))
  ]

-- turns that handle nothing only where one thing lacks, where another does
pub turns_over : {L M : Type 0} → (L → M) → (n : ℕ) (s : State) (es : List Entry) → AreOwnTurns L n s es
    → AreOwnTurns M n s es
turns_over f zero s es none = none
turns_over {L} {M} f (suc n) s es (turn, others, is, are, rest) = (
  turn,
  others,
  record { did = is.did; are = is.are; first = first_over is.did s is.first },
  are,
  turns_over f n (replay s turn) others rest,
)
  where
    first_over : (did : List Entry) (t : State) → (L × (did ≡ [])) ⊎ HandlesDue t did ⊎ HandlesQuestion t did
        → (M × (did ≡ [])) ⊎ HandlesDue t did ⊎ HandlesQuestion t did
    first_over did t (inl none) = inl (f none.0, none.1)
    first_over did t (inr some) = inr some

pub takes_over : {L M : Type 0} → (L → M) → (a b : Log) (n : ℕ) → TakesTurns L a b n → TakesTurns M a b n
takes_over f a b n t = record {
  turns = t.turns;
  few = t.few;
  added = t.added;
  by = t.by;
  are = turns_over f
      t.turns a.state t.added t.are;
}
