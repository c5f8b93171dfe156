-- Groups that nobody else has, as the turns of one thread leave them.
use Rattle.std.specs.Prelude.{◌≡◌, ◌⊎◌, ℕ, List, Bool, map, true, false}
use Rattle.ts_journal.specs.State.{State}
use Rattle.ts_group.specs.declared.action.Named.{Named}
use Rattle.ts_group.specs.declared.either.Either.{Either}
use Rattle.ts_group.specs.declared.either.Either.TheVariants.{One, Other}
use Rattle.ts_group.specs.declared.either.EitherTag.{EitherTag}
use Rattle.ts_group.specs.declared.group.Group.{Group}
use Rattle.ts_thread.specs.Alone.{HasStepped}
use Rattle.ts_thread.specs.Goings.{IsIdle}
use Rattle.ts_thread.specs.Tags.{GroupsFit}
use Rattle.ts_serve.specs.Opening.{FitServer}
use Rattle.ts_serve.specs.Servers.{CanAskInServer}
use Rattle.ts_serve.specs.declared.place.Place.{Place}
use Rattle.ts_serve.specs.declared.place.Place.TheVariants.{Empty, Tenant}

-- they fit the tags that they fitted, whichever these are
abbrev pub StayFit : {W Q R T U : Type 0} → (T → W → Type 0) → (W → State → List Named → Type 0) → (T → Bool)
    → (T → Bool) → List (Group W Q R T U) → List (Group W Q R T U) → Type 0
StayFit {T = T} Fits Sound only_asked is_first old new =
    (tags : List T) → GroupsFit Fits Sound only_asked is_first tags old
    → GroupsFit Fits Sound only_asked is_first tags new

-- each was made with as many turns as the one that was there before
abbrev pub AreMadeAlike : {W Q R T U : Type 0} → List (Group W Q R T U) → List (Group W Q R T U) → Type 0
AreMadeAlike old new = map (λ g. g.cx.log.base.made) new ≡ map (λ g. g.cx.log.base.made) old

-- The group at a place had a turn of its own, or nothing changed.
abbrev pub HasHandled : {W Q R T U : Type 0} → ℕ → List (Group W Q R T U) → List (Group W Q R T U) → Bool
    → Type 0
HasHandled place old new true = HasStepped place old new
HasHandled place old new false = new ≡ old

-- Whoever lives in a place may wait for its client without end. In an empty place nobody waits, nor beside
-- the places.
abbrev pub waits_in : {W P : Type 0} → (W → Bool) → Either (Place W) P → Bool
waits_in may_wait (One Empty) = false
waits_in may_wait (One (Tenant w)) = may_wait w
waits_in may_wait (Other p) = false

-- no event of the group is pending, or its handler may wait for its client without end
abbrev pub IsIdleOrWaits : {W P Q R T U : Type 0} → (W → Bool) → Group (Either (Place W) P) Q R T U → Type 0
IsIdleOrWaits may_wait g = IsIdle g ⊎ (waits_in may_wait g.world ≡ true)

module _ {W T A P U : Type 0} (Fits : T → W → Type 0) (Keeps : A → T → Type 0)
    (Sound : W → State → List Named → Type 0) (Other : U → P → Type 0)
    (SoundOther : P → State → List Named → Type 0) (only_asked is_first : U → Bool) {Q R X : Type 0} where
  -- The groups of a server fit tags, and ask as these allow.
  pub record CanGoOn (MayAsk : W → ℕ → Type 0) (Right : W → ℕ → Q → R → Type 0) (Answers : W → Q → R → Type 0)
      (OtherMayAsk : P → ℕ → Type 0) (OtherRight : P → ℕ → Q → R → Type 0) (OtherAnswers : P → Q → R → Type 0)
      (groups : List (Group (Either (Place W) P) Q R (EitherTag A U) X)) : Type 0 where
    pub tags : List (EitherTag A U)
    pub asks : CanAskInServer Fits Keeps MayAsk Right Answers Other only_asked OtherMayAsk OtherRight
        OtherAnswers tags
    pub fit : FitServer Fits Keeps Sound Other SoundOther only_asked is_first tags groups

  -- the groups of a server fit the tags that they fitted, whichever these are
  abbrev pub ServerStaysFit : List (Group (Either (Place W) P) Q R (EitherTag A U) X)
      → List (Group (Either (Place W) P) Q R (EitherTag A U) X) → Type 0
  ServerStaysFit old new =
      (tags : List (EitherTag A U)) → FitServer Fits Keeps Sound Other SoundOther only_asked is_first tags old
      → FitServer Fits Keeps Sound Other SoundOther only_asked is_first tags new
