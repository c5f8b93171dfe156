-- What a slot asks of a group that was changed in a turn.
use Rattle.std.proofs.Common.{◌≡◌, ℕ, ◌⊎◌, zero, suc, inl, inr, List, [], ◌∷◌, ◌++◌, refl, sym, ap, ◌∙◌, subst, arith}
use Rattle.std.specs.List.{Contains}
use Rattle.std.specs.Prelude.{Option}
use Rattle.std.specs.Prelude.{Result, Ok, Err, OnOk, OnErr}
use Rattle.std.proofs.lemmas.List.Elements.{Contains-append_cases, Contains-append_left, Contains-append_right}
use Rattle.ts_journal.specs.declared.entry.Entry.{Entry}
use Rattle.ts_journal.specs.declared.entry.Entry.TheVariants.{Took, Gave, Made, Set, Handled, Cancelled, Dropped, Destroyed}
use Rattle.ts_journal.specs.declared.entry.Mark.{Mark}
use Rattle.ts_journal.specs.Log.{Log, GoesOn, IsSameLog, mark_after}
use Rattle.ts_group.specs.Slot.{marks_of, mark_of, marks_in}
use Rattle.ts_journal.proofs.Folding.{goes_on_trans, goes_on_extends}
use Rattle.ts_group.proofs.Room.{needed_gave}
use Rattle.ts_group.proofs.Facts.{stay_same}

pub marks_append : (es fs : List Entry) → marks_of (es ++ fs) ≡ marks_of es ++ marks_of fs
marks_append [] fs = refl
marks_append (Took turn seat ∷ es) fs = ap (λ ms. (turn, seat) ∷ ms) (marks_append es fs)
marks_append (Gave turn ∷ es) fs = marks_append es fs
marks_append (Made key ∷ es) fs = marks_append es fs
marks_append (Set number key event due series period ∷ es) fs = marks_append es fs
marks_append (Handled number moment ∷ es) fs = marks_append es fs
marks_append (Cancelled number ∷ es) fs = marks_append es fs
marks_append (Dropped number ∷ es) fs = marks_append es fs
marks_append (Destroyed key ∷ es) fs = marks_append es fs

-- the turn that was taken last is one of those before, or of these entries
mark_found : (last : Option Mark) (es : List Entry) (mark : ℕ × ℕ)
    → Contains (mark_of (mark_after last es)) mark
    → Contains (mark_of last) mark ⊎ Contains (marks_of es) mark
mark_found last [] mark there = inl there
mark_found last (Took turn seat ∷ es) mark there = inr (later (mark_found _ es mark there))
  where
    later : Contains ((turn, seat) ∷ []) mark ⊎ Contains (marks_of es) mark
        → Contains ((turn, seat) ∷ marks_of es) mark
    later (inl here) = Contains-append_left ((turn, seat) ∷ []) (marks_of es) mark here
    later (inr rest) = Contains-append_right ((turn, seat) ∷ []) (marks_of es) mark rest
mark_found last (Gave turn ∷ es) mark there = mark_found last es mark there
mark_found last (Made key ∷ es) mark there = mark_found last es mark there
mark_found last (Set number key event due series period ∷ es) mark there = mark_found last es mark there
mark_found last (Handled number moment ∷ es) mark there = mark_found last es mark there
mark_found last (Cancelled number ∷ es) mark there = mark_found last es mark there
mark_found last (Dropped number ∷ es) mark there = mark_found last es mark there
mark_found last (Destroyed key ∷ es) mark there = mark_found last es mark there

-- A mark of a journal that went on, and may have been folded, is an old one or one of the entries that were
-- added.
pub marks_go : (old new : Log) (added : List Entry) (mark : ℕ × ℕ) → GoesOn old new added
    → Contains (marks_in new) mark → Contains (marks_in old) mark ⊎ Contains (marks_of added) mark
marks_go old new added mark by there =
    elim (Contains-append_cases (mark_of new.base.mark) (marks_of new.entries) mark there) [
      | inl last ↦ elim (mark_found old.base.mark by.folded mark
          (subst (λ m. Contains (mark_of m) mark) by.mark last)) [
            | inl before ↦ inl (Contains-append_left was marks mark before)
            | inr gone ↦ among (Contains-append_left (marks_of by.folded) (marks_of new.entries) mark gone)
          ]
      | inr stored ↦ among (Contains-append_right (marks_of by.folded) (marks_of new.entries) mark stored)
    ]
  where
    was : List (ℕ × ℕ)
    was = mark_of old.base.mark

    marks : List (ℕ × ℕ)
    marks = marks_of old.entries

    all : marks_of by.folded ++ marks_of new.entries ≡ marks ++ marks_of added
    all = sym (marks_append by.folded new.entries) ∙ ap marks_of (sym by.entries)
        ∙ marks_append old.entries added

    among : Contains (marks_of by.folded ++ marks_of new.entries) mark
        → Contains (marks_in old) mark ⊎ Contains (marks_of added) mark
    among of_all = elim (Contains-append_cases marks (marks_of added) mark
        (subst (λ ms. Contains ms mark) all of_all)) [
          | inl before ↦ inl (Contains-append_right was marks mark before)
          | inr now ↦ inr now
        ]

-- the same journal records the same turns
pub marks_same : (a b : Log) → IsSameLog a b → marks_in b ≡ marks_in a
marks_same a b same i = mark_of (same.base i).mark ++ marks_of (same.entries i)

-- the only mark of a list with one
pub one_mark : (a mark : ℕ × ℕ) → Contains (a ∷ []) mark → mark ≡ a
one_mark a mark (zero, low, is) = sym is
one_mark a mark (suc k, low, is) = absurd (omega arith)

-- what holds of a result either way
pub either_way : {A E : Type 0} (r : Result A E) (P Q : Type 0) → OnOk r P → OnErr r Q → P ⊎ Q
either_way (Ok a) P Q ok err = inl ok
either_way (Err e) P Q ok err = inr err

-- a turn that is given back, after which the journal may be folded
pub ruleset give_steps = (needed_gave, stay_same, goes_on_trans, goes_on_extends)
