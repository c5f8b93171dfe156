-- Names that were tried: each is left, or settled, name after name.
use Rattle.std.proofs.Common.{◌≡◌, ℕ, ◌+◌, ◌<◌, ◌≤◌, inl, inr, List, [], ◌∷◌, ◌++◌, Bool, false, get_or}
use Rattle.std.proofs.Common.{refl, sym, subst, ⊎_elim, arith, Result, Ok, Err}
use Rattle.std.specs.Prelude.{IfOk}
use Rattle.std.proofs.lemmas.Bool.{cases_lt}
use Rattle.ts_journal.specs.declared.slotted.Slotted.{Ghosts}
use Rattle.ts_journal.specs.State.{State}
use Rattle.ts_group.specs.declared.action.Named.{Named}
use Rattle.ts_group.specs.declared.either.Either.{Either}
use Rattle.ts_group.specs.declared.either.EitherTag.{EitherTag}
use Rattle.ts_group.specs.declared.group.Group.{Group}
use Rattle.ts_group.specs.Either.{EitherFits, EitherSound, tag_of}
use Rattle.ts_slot.specs.Lists.{IsIn}
use Rattle.ts_thread.specs.Desks.{KeepsTokens}
use Rattle.ts_thread.specs.Started.{IsFirst}
use Rattle.ts_serve.specs.declared.connection.Connection.{Connection}
use Rattle.ts_serve.specs.declared.connection.Connection.TheVariants.{Free}
use Rattle.ts_serve.specs.declared.place.Place.{Place}
use Rattle.ts_serve.specs.Places.{PlaceFits, PlaceSound}
use Rattle.ts_serve.specs.Ready.{FirstAreLeft, IsLeft, IsSettledAt, StandsIn, serves_client}
use Rattle.ts_serve.specs.Knowledge.{ServerDesk}
use Rattle.ts_serve.proofs.Later.{started_later}

-- what stood in a list stands in it with more behind it, and so does the last one
pub in_front : {A : Type 0} (x : A) (xs ys : List A) → IsIn x xs → IsIn x (xs ++ ys)
in_front x [] ys is = absurd is
in_front x (y ∷ xs) ys (inl same) = inl same
in_front x (y ∷ xs) ys (inr behind) = inr (in_front x xs ys behind)

pub in_last : {A : Type 0} (x : A) (xs : List A) → IsIn x (xs ++ x ∷ [])
in_last x [] = inl refl
in_last x (y ∷ xs) = inr (in_last x xs)

-- none of the first places is one for the client, and so neither is the next one
pub none_more : (number k : ℕ) (row : List Connection)
    → ((j : ℕ) → j < k → serves_client number (get_or row j Free) ≡ false)
    → serves_client number (get_or row k Free) ≡ false
    → (j : ℕ) → j < k + 1 → serves_client number (get_or row j Free) ≡ false
none_more number k row none here j low =
    ⊎_elim (λ (before : j < k). none j before)
    (λ (not : k ≤ j).
    let same : j ≡ k = omega (arith, low, not) in
    subst (λ (i : ℕ). serves_client number (get_or row i Free) ≡ false) (sym same) here)
    (cases_lt j k)

-- what follows of each answer follows of this one
pub of_answer : {A E : Type 0} (r : Result A E) (P : A → Type 0) (Then : A → Type 0)
    → ((a : A) → P a → Then a) → IfOk r P → IfOk r Then
of_answer (Ok a) P Then follows h = follows a h
of_answer (Err e) P Then follows h = tt

module _ {W T A P V Q R U : Type 0}
    {d : Ghosts (Group (Either (Place W) P) Q R (EitherTag A V) U) (EitherTag A V)
    (Group (Either (Place W) P) Q R (EitherTag A V) U)}
    (Fits : T → W → Type 0) (Keeps : A → T → Type 0) (Sound : W → State → List Named → Type 0)
    (Other : V → P → Type 0) (SoundOther : P → State → List Named → Type 0) (is_first : V → Bool)
    (tags : List (EitherTag A V)) (row : List Connection) (moment : ℕ) where
  -- who was settled is so later on
  settled_on : (number most : ℕ) (old new : ServerDesk W A P V Q R U d) → KeepsTokens old new most
      → IsSettledAt Fits Keeps Sound Other SoundOther is_first tags row moment number old
      → IsSettledAt Fits Keeps Sound Other SoundOther is_first tags row moment number new
  settled_on number most old new keeps (inl none) = inl none
  settled_on number most old new keeps (inr at) = inr (
    at.0,
    at.1,
    started_later (EitherFits (PlaceFits Fits Keeps) Other) (IsFirst (tag_of (λ terms. false) is_first) tags)
        _ (EitherSound (PlaceSound Sound) SoundOther) moment at.0 most old new keeps at.2,
  )

  -- one name more was tried, and whoever was left is
  pub left_on : (place most : ℕ) (names left more : List ℕ) (old new : ServerDesk W A P V Q R U d)
      → KeepsTokens old new most → StandsIn left more
      → FirstAreLeft Fits Keeps Sound Other SoundOther is_first tags row moment place names left old
      → IsLeft Fits Keeps Sound Other SoundOther is_first tags row moment (get_or names place 0) more new
      → FirstAreLeft Fits Keeps Sound Other SoundOther is_first tags row moment (place + 1) names more new
  left_on place most names left more old new keeps stays were here j low =
      ⊎_elim (λ (before : j < place). by_name (get_or names j 0) (were j before))
      (λ (not : place ≤ j).
      let same : j ≡ place = omega (arith, low, not) in
      subst (λ (i : ℕ). IsLeft Fits Keeps Sound Other SoundOther is_first tags row moment (get_or names i 0) more
      new) (sym same) here)
      (cases_lt j place)
    where
      by_name : (x : ℕ) → IsLeft Fits Keeps Sound Other SoundOther is_first tags row moment x left old
          → IsLeft Fits Keeps Sound Other SoundOther is_first tags row moment x more new
      by_name x (inl is) = inl (stays x is)
      by_name x (inr settled) = inr (settled_on x most old new keeps settled)
