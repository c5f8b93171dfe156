-- What a turn makes of a group.
use Rattle.std.proofs.Common.{◌≡◌, ℕ, ◌⊎◌, inl, inr, false, [], ◌∷◌, ◌++◌, sym, ap, ◌∙◌, subst, ⊎_elim, arith}
use Rattle.std.specs.Prelude.{Result, Ok, Err, OnOk, OnErr}
use Rattle.std.specs.List.{Contains}
use Rattle.ts_journal.specs.declared.entry.Entry.TheVariants.{Took, Gave}
use Rattle.ts_journal.specs.State.{State}
use Rattle.ts_journal.specs.Machine.{IsValid}
use Rattle.ts_journal.specs.Later.{IsLater}
use Rattle.ts_journal.proofs.Later.{later_refl, later_trans, extends_later, goes_on_later}
use Rattle.ts_group.specs.declared.group.Group.{Group}
use Rattle.ts_group.specs.Context.{IsSame}
use Rattle.ts_group.specs.Answers.{KeepsTags}
use Rattle.ts_group.specs.Acts.{BeginsTurn, GivesTurn, KeepsRoles}
use Rattle.ts_group.specs.Slot.{marks_in}
use Rattle.ts_group.specs.Standing.{FollowsGroup}
use Rattle.ts_group.proofs.Slots.{marks_go, marks_same, either_way}
use Rattle.std.proofs.lemmas.List.Elements.{Contains-append_cases}
use Rattle.ts_group.proofs.Slots.{one_mark}
use Rattle.ts_thread.specs.Held.{HasTurn, IsGivenBack, GoesInTurn, BeginsSame, GivesBack}
use Rattle.ts_thread.proofs.Entries.{marks_took}

pub ok_to : {A E P Q : Type 0} (r : Result A E) → (P → Q) → OnOk r P → OnOk r Q
ok_to (Ok a) f h = f h
ok_to (Err e) f h = tt

pub err_to : {A E P Q : Type 0} (r : Result A E) → (P → Q) → OnErr r P → OnErr r Q
err_to (Ok a) f h = tt
err_to (Err e) f h = f h

-- no mark is in a list without one
no_mark : (mark : ℕ × ℕ) → Contains {X = ℕ × ℕ} [] mark → ⊥
no_mark mark there = let low = there.1 in omega arith

later_same : (s t : State) → t ≡ s → IsLater s t
later_same s t e = subst (IsLater s) (sym e) (later_refl s)

-- a world that is the same fits what it fitted
pub keeps_same : {T W : Type 0} (Fits : T → W → Type 0) (v w : W) → w ≡ v → KeepsTags Fits v w
keeps_same Fits v w same tag = subst (Fits tag) (sym same)

module _ {W Q R T U : Type 0} where
  pub has_begun : (Fits : T → W → Type 0) (old new : Group W Q R T U) (turn seat moment : ℕ)
      → IsValid old.cx.log.state → BeginsTurn old.cx new.cx turn seat moment → KeepsRoles old.cx new.cx
      → new.world ≡ old.world → HasTurn Fits old new turn seat
  has_begun Fits old new turn seat moment valid begins kept world = record {
    held = ap (λ (s : State). s.held) begins.state;
    number = ap (λ (s : State). s.turns) begins.state;
    marks = marks_took old.cx.log new.cx.log turn seat begins.by;
    later = extends_later old.cx.log new.cx.log (Took turn seat ∷ []) valid begins.by;
    made = ap (λ b. b.made) begins.by.base;
    news_from = kept.news_from;
    tags = keeps_same Fits old.world new.world world;
  }

  pub begins_same : {A E : Type 0} (r : Result A E) (old new : Group W Q R T U) (turn seat moment : ℕ)
      → OnOk r (BeginsTurn old.cx new.cx turn seat moment) → OnErr r (IsSame old.cx new.cx)
      → KeepsRoles old.cx new.cx → new.world ≡ old.world → BeginsSame old new
  begins_same r old new turn seat moment ok err kept world =
      ⊎_elim
      (λ (b : BeginsTurn old.cx new.cx turn seat moment). record {
        world = world;
        pending = ap (λ (s : State). s.pending) b.state;
        next = ap (λ (s : State). s.next) b.state;
        handled = ap (λ (s : State). s.handled_count) b.state;
        roles = kept.roles;
      })
      (λ (e : IsSame old.cx new.cx). record {
        world = world;
        pending = ap (λ (s : State). s.pending) e.log.state;
        next = ap (λ (s : State). s.next) e.log.state;
        handled = ap (λ (s : State). s.handled_count) e.log.state;
        roles = kept.roles;
      })
      (either_way r (BeginsTurn old.cx new.cx turn seat moment) (IsSame old.cx new.cx) ok err)

  -- a group in which no turn was begun
  pub given_same : (Fits : T → W → Type 0) (old new : Group W Q R T U) (turn seat : ℕ)
      → old.cx.log.state.held ≡ false → IsSame old.cx new.cx → new.world ≡ old.world
      → IsGivenBack Fits old new turn seat × (new.cx.log.state ≡ old.cx.log.state)
  given_same Fits old new turn seat free same world = (
    record {
      free = ap (λ (s : State). s.held) same.log.state ∙ free;
      stamp = inl (ap (λ (s : State). s.turns) same.log.state);
      marks = λ mark there.
          inl (subst (λ ms. Contains ms mark) (marks_same old.cx.log new.cx.log same.log) there);
      later = later_same old.cx.log.state new.cx.log.state same.log.state;
      made = ap (λ b. b.made) same.log.base;
      rose = let e = same.news_from in omega arith;
      tags = keeps_same Fits old.world new.world world;
    },
    same.log.state,
  )

  pub gives_back : (old new : Group W Q R T U) → IsValid old.cx.log.state → GivesTurn old.cx new.cx
      → KeepsRoles old.cx new.cx → new.world ≡ old.world → GivesBack old new
  gives_back old new valid gives kept world = record {
    free = ap (λ (s : State). s.held) gives.state;
    number = ap (λ (s : State). s.turns) gives.state;
    marks = λ mark there.
        elim (marks_go old.cx.log new.cx.log (Gave old.cx.log.state.turns ∷ []) mark gives.by there) [
          | inl was ↦ was
          | inr none ↦ absurd (no_mark mark none)
        ];
    later = goes_on_later old.cx.log new.cx.log (Gave old.cx.log.state.turns ∷ []) valid gives.by;
    made = gives.by.made;
    news_from = kept.news_from;
    same = record {
      world = world;
      pending = ap (λ (s : State). s.pending) gives.state;
      next = ap (λ (s : State). s.next) gives.state;
      handled = ap (λ (s : State). s.handled_count) gives.state;
      roles = kept.roles;
    };
  }

  -- the turns that are recorded once a turn was given back
  pub marks_given : (found a b : Group W Q R T U) (turn seat : ℕ)
      → marks_in a.cx.log ≡ marks_in found.cx.log ++ (turn, seat) ∷ [] → GivesBack a b → (mark : ℕ × ℕ)
      → Contains (marks_in b.cx.log) mark → Contains (marks_in found.cx.log) mark ⊎ (mark ≡ (turn, seat))
  marks_given found a b turn seat has gives mark there =
      let was : Contains (marks_in found.cx.log ++ (turn, seat) ∷ []) mark = subst
      (λ ms. Contains ms mark) has (gives.marks mark there) in
      ⊎_elim (λ (old : Contains (marks_in found.cx.log) mark). inl old)
      (λ (one : Contains ((turn, seat) ∷ []) mark). inr (one_mark (turn, seat) mark one))
      (Contains-append_cases (marks_in found.cx.log) ((turn, seat) ∷ []) mark was)

  -- a turn that goes on
  pub has_gone : (Fits : T → W → Type 0) (found a b : Group W Q R T U) (turn seat : ℕ)
      → HasTurn Fits found a turn seat → GoesInTurn Fits a b → HasTurn Fits found b turn seat
  has_gone Fits found a b turn seat has goes = record {
    held = goes.turn.held;
    number = goes.turn.turns ∙ has.number;
    marks = goes.marks ∙ has.marks;
    later = later_trans found.cx.log.state a.cx.log.state b.cx.log.state has.later goes.later;
    made = goes.made ∙ has.made;
    news_from = goes.news_from ∙ has.news_from;
    tags = λ tag fit. goes.tags tag (has.tags tag fit);
  }

  -- a group in its turn follows what was found
  pub turn_follows : (Fits : T → W → Type 0) (found now : Group W Q R T U) (turn seat : ℕ)
      → HasTurn Fits found now turn seat → FollowsGroup Fits now found
  turn_follows Fits found now turn seat has = record {
    journal = inr (has.made, has.later);
    tags = λ same. has.tags;
  }

  -- a turn that is given back
  pub given_back : (Fits : T → W → Type 0) (found a b : Group W Q R T U) (turn seat : ℕ)
      → HasTurn Fits found a turn seat → GivesBack a b → IsGivenBack Fits found b turn seat
  given_back Fits found a b turn seat has gives = record {
    free = gives.free;
    stamp = inr (gives.number ∙ has.number);
    marks = marks_given found a b turn seat has.marks gives;
    later = later_trans found.cx.log.state a.cx.log.state b.cx.log.state has.later gives.later;
    made = gives.made ∙ has.made;
    rose = let a = has.news_from in let b = gives.news_from in omega arith;
    tags = λ tag fit. keeps_same Fits a.world b.world gives.same.world tag (has.tags tag fit);
  }
