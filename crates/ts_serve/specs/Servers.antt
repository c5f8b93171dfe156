-- The server: the groups of the places, and those of worlds that stand beside them and are only asked.
use Rattle.std.specs.Prelude.{◌≡◌, ℕ, ◌+◌, ◌≤◌, List, ◌++◌, All, Bool, false, true, length, map, replicate}
use Rattle.ts_journal.specs.State.{State}
use Rattle.ts_group.specs.declared.action.Named.{Named}
use Rattle.ts_group.specs.declared.either.EitherTag.{EitherTag}
use Rattle.ts_group.specs.declared.either.EitherTag.TheVariants as tag
use Rattle.ts_group.specs.Context.{Context, IsFresh}
use Rattle.ts_group.specs.Either.{EitherFits, EitherMayAsk, EitherRight, EitherAnswers, tag_of}
use Rattle.ts_thread.specs.Tags.{CanAsk}
use Rattle.ts_slot.specs.Limits.{most_groups}
use Rattle.ts_serve.specs.declared.acceptor.TheConstants.{PLACES}
use Rattle.ts_exchange.specs.declared.plugins.Tagged.{Tagged}
use Rattle.ts_serve.specs.Places.{PlaceFits, PlaceMayAsk, PlaceRight, PlaceAnswers}

-- Of groups with these tags, each that whoever lives in a place may ask stands beside the places, and what it
-- replies is right.
abbrev pub CanAskInServer : {W T A P U Q R : Type 0} → (T → W → Type 0) → (A → T → Type 0) → (W → ℕ → Type 0)
    → (W → ℕ → Q → R → Type 0) → (W → Q → R → Type 0) → (U → P → Type 0) → (U → Bool) → (P → ℕ → Type 0)
    → (P → ℕ → Q → R → Type 0) → (P → Q → R → Type 0) → List (EitherTag A U) → Type 0
CanAskInServer Fits Keeps MayAsk Right Answers Other only_asked OtherMayAsk OtherRight OtherAnswers tags =
    CanAsk (EitherFits (PlaceFits Fits Keeps) Other) (tag_of (λ terms. false) only_asked)
    (EitherMayAsk (PlaceMayAsk MayAsk) OtherMayAsk) (EitherRight (PlaceRight Right) OtherRight)
    (EitherAnswers (PlaceAnswers Answers) OtherAnswers) tags

-- the tags of a server: those of the places, all of these terms, and behind them those of the other worlds
abbrev pub server_tags : {A P U : Type 0} → A → List (Tagged P U) → List (EitherTag A U)
server_tags terms others = replicate PLACES (tag.One terms) ++ map (λ b. tag.Other b.tag) others

-- The world fits its tag, is only asked, and is sound in a group in which nothing was done.
pub record StandsBeside {P U : Type 0} (Other : U → P → Type 0) (SoundOther : P → State → List Named → Type 0)
    (only_asked : U → Bool) (beside : Tagged P U) : Type 0 where
  pub fits : Other beside.tag beside.world
  pub asked : only_asked beside.tag ≡ true
  pub sound : (now : Context) → IsFresh 0 now → SoundOther beside.world now.log.state now.roles

-- these worlds can stand beside the places: there are slots for all
pub record CanStandBeside {P U : Type 0} (Other : U → P → Type 0)
    (SoundOther : P → State → List Named → Type 0) (only_asked : U → Bool) (others : List (Tagged P U))
    : Type 0 where
  pub few : PLACES + length others ≤ most_groups
  pub each : All (StandsBeside Other SoundOther only_asked) others
