-- Groups that nobody else has go on, turn after turn: they fit the tags that they fitted, and were made as
-- they were.
use Rattle.std.proofs.Common.{◌≡◌, ◌∙◌, ℕ, suc, ◌+◌, ◌<◌, List, [], ◌∷◌, All, Bool, Option, Result}
use Rattle.std.proofs.Common.{ap, get_or, length, map, refl, subst, sym, take, arith}
use Rattle.std.proofs.lemmas.List.Elements.{All-append, All-cons, All-nil}
use Rattle.std.proofs.Math.Seq.{take-suc}
use Rattle.ts_journal.specs.State.{State}
use Rattle.ts_group.specs.declared.action.Named.{Named}
use Rattle.ts_group.specs.declared.either.Either.{Either}
use Rattle.ts_group.specs.declared.either.EitherTag.{EitherTag}
use Rattle.ts_group.specs.declared.group.Group.{Group}
use Rattle.ts_thread.specs.declared.did.Unfinished.{Unfinished}
use Rattle.ts_thread.specs.Goings.{AllGoOn}
use Rattle.ts_thread.proofs.Rows.{fits_on}
use Rattle.ts_serve.specs.Leftover.{AreMadeAlike, CanGoOn, ServerStaysFit, StayFit}
use Rattle.ts_serve.specs.declared.place.Place.{Place}

-- what holds of the first of a list, and of the next one, holds of one more
pub all_one_more : {A : Type 0} (P : A → Type 0) (xs : List A) (k : ℕ) (x : A) → k < length xs
    → x ≡ get_or xs k x → P x → All P (take k xs) → All P (take (k + 1) xs)
all_one_more P xs k x below is holds all =
    let next : suc k ≡ k + 1 = omega arith in
    subst (λ (n : ℕ). All P (take n xs)) next
    (subst (All P) (sym (take-suc xs k x below))
    (All-append P (take k xs) (get_or xs k x ∷ []) all
    (All-cons P (get_or xs k x) [] (subst P is holds) (All-nil P))))

module _ {W Q R T U : Type 0} (Fits : T → W → Type 0) (Sound : W → State → List Named → Type 0)
    (only_asked is_first : T → Bool) (Left : W → State → Option ℕ) (limit turns : ℕ)
    (result : Result (Unit {0}) Unfinished) where
  pub stay_gone : (old new : List (Group W Q R T U))
      → AllGoOn Fits Sound only_asked is_first Left limit result old new turns
      → StayFit Fits Sound only_asked is_first old new
  stay_gone old new on tags fit =
      fits_on Fits Sound only_asked is_first Left limit result tags old new turns fit on

  pub made_gone : (old new : List (Group W Q R T U))
      → AllGoOn Fits Sound only_asked is_first Left limit result old new turns → AreMadeAlike old new
  made_gone [] [] on = refl
  made_gone [] (h ∷ hs) on = absurd on
  made_gone (g ∷ gs) [] on = absurd on
  made_gone (g ∷ gs) (h ∷ hs) on =
      ap (λ (n : ℕ). n ∷ map (λ (x : Group W Q R T U). x.cx.log.base.made) hs) on.0.later.made
      ∙ ap (λ (ns : List ℕ). g.cx.log.base.made ∷ ns) (made_gone gs hs on.1)

module _ {W T A P U Q R X : Type 0} (Fits : T → W → Type 0) (Keeps : A → T → Type 0)
    (Sound : W → State → List Named → Type 0) (Other : U → P → Type 0)
    (SoundOther : P → State → List Named → Type 0) (only_asked is_first : U → Bool) (MayAsk : W → ℕ → Type 0)
    (Right : W → ℕ → Q → R → Type 0) (Answers : W → Q → R → Type 0) (OtherMayAsk : P → ℕ → Type 0)
    (OtherRight : P → ℕ → Q → R → Type 0) (OtherAnswers : P → Q → R → Type 0)
    (old new : List (Group (Either (Place W) P) Q R (EitherTag A U) X)) where
  -- groups that fit their tags as before go on as before
  pub goes_on : ServerStaysFit Fits Keeps Sound Other SoundOther only_asked is_first old new
      → CanGoOn Fits Keeps Sound Other SoundOther only_asked is_first MayAsk Right Answers OtherMayAsk
      OtherRight OtherAnswers old
      → CanGoOn Fits Keeps Sound Other SoundOther only_asked is_first MayAsk Right Answers OtherMayAsk
      OtherRight OtherAnswers new
  goes_on stays can = record { tags = can.tags; asks = can.asks; fit = stays can.tags can.fit }

  -- and so do the same ones
  pub goes_same : new ≡ old
      → CanGoOn Fits Keeps Sound Other SoundOther only_asked is_first MayAsk Right Answers OtherMayAsk
      OtherRight OtherAnswers old
      → CanGoOn Fits Keeps Sound Other SoundOther only_asked is_first MayAsk Right Answers OtherMayAsk
      OtherRight OtherAnswers new
  goes_same same can =
      subst (CanGoOn Fits Keeps Sound Other SoundOther only_asked is_first MayAsk Right Answers OtherMayAsk
      OtherRight OtherAnswers) (sym same) can
