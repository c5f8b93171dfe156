-- Handlers that were started stay so, handler after handler.
use Rattle.std.proofs.Common.{◌≡◌, ℕ, ◌+◌, ◌<◌, ◌≤◌, List, Bool, true, false, get_or, sym, ◌∙◌, subst, ⊎_elim}
use Rattle.std.proofs.Common.{arith}
use Rattle.std.specs.Prelude.{◌≢◌}
use Rattle.std.proofs.lemmas.Bool.{cases_lt}
use Rattle.ts_journal.specs.declared.entry.TheConstants.{GREATEST}
use Rattle.ts_journal.specs.declared.slotted.Slotted.{Ghosts}
use Rattle.ts_journal.specs.State.{State}
use Rattle.ts_group.specs.declared.action.Named.{Named}
use Rattle.ts_group.specs.declared.either.Either.{Either}
use Rattle.ts_group.specs.declared.either.EitherTag.{EitherTag}
use Rattle.ts_group.specs.declared.group.Group.{Group}
use Rattle.ts_group.specs.Either.{EitherFits, EitherSound, OfBoth, tag_of}
use Rattle.ts_thread.specs.Desks.{KeepsTokens}
use Rattle.ts_thread.specs.Started.{IsFirst}
use Rattle.ts_serve.specs.declared.connection.Connection.{Connection}
use Rattle.ts_serve.specs.declared.connection.Connection.TheVariants.{Free, Accepted}
use Rattle.ts_serve.specs.declared.place.Place.{Place}
use Rattle.ts_serve.specs.declared.whose.Whose.{Whose}
use Rattle.ts_serve.specs.Places.{PlaceBegun, PlaceFits, PlaceSound}
use Rattle.ts_serve.specs.Starting.{OthersStay, RestStays, IsNowStarted, IsStartedAt, WereStartedAt}
use Rattle.ts_serve.specs.Knowledge.{ServerDesk}
use Rattle.ts_serve.proofs.Later.{started_later}

-- no handler is started now whose connection is what it was
pub none_now : (k : ℕ) (old new : List Connection) → get_or new k Free ≡ get_or old k Free → IsNowStarted k old new
    → ⊥
none_now k old new same now =
    two_sides now.whose now.whose now.made now.made (sym now.was ∙ sym same ∙ now.is)
  where
    two_sides : (v w : Whose) (n m : ℕ) → Accepted v false n ≡ Accepted w true m → ⊥
    two_sides v w n m is = absurd (cc)

-- the connections behind the next place stay, where that alone changes
pub rest_on : (k : ℕ) (old mid new : List Connection) → RestStays k old mid → OthersStay k mid new
    → RestStays (k + 1) old new
rest_on k old mid new rest others j behind =
    let apart : j ≢ k = λ is. absurd (omega arith) in
    others j apart ∙ rest j (omega arith)

module _ {W T A P V Q R U : Type 0}
    {d : Ghosts (Group (Either (Place W) P) Q R (EitherTag A V) U) (EitherTag A V)
    (Group (Either (Place W) P) Q R (EitherTag A V) U)}
    (Fits : T → W → Type 0) (Keeps : A → T → Type 0) (Begun : W → W → Type 0)
    (Sound : W → State → List Named → Type 0) (Other : V → P → Type 0) (OtherBegun : P → P → Type 0)
    (SoundOther : P → State → List Named → Type 0) (is_first : V → Bool) (tags : List (EitherTag A V)) where
  -- who was started was started, as long as nothing is forgotten and no token is lost
  started_on : (k most : ℕ) (old new : ServerDesk W A P V Q R U d) → KeepsTokens old new most
      → IsStartedAt Fits Keeps Begun Sound Other OtherBegun SoundOther is_first tags k old
      → IsStartedAt Fits Keeps Begun Sound Other OtherBegun SoundOther is_first tags k new
  started_on k most old new keeps at =
      started_later (EitherFits (PlaceFits Fits Keeps) Other) (IsFirst (tag_of (λ terms. false) is_first) tags)
      (OfBoth (PlaceBegun Begun) OtherBegun) (EitherSound (PlaceSound Sound) SoundOther) GREATEST k most old new
      keeps at

  -- one handler more
  pub one_more_started : (k most : ℕ) (row mid new : List Connection) (desk next : ServerDesk W A P V Q R U d)
      → KeepsTokens desk next most → RestStays k row mid → OthersStay k mid new
      → WereStartedAt Fits Keeps Begun Sound Other OtherBegun SoundOther is_first tags k row mid desk
      → (IsNowStarted k mid new
      → IsStartedAt Fits Keeps Begun Sound Other OtherBegun SoundOther is_first tags k next)
      → WereStartedAt Fits Keeps Begun Sound Other OtherBegun SoundOther is_first tags (k + 1) row new next
  one_more_started k most row mid new desk next keeps rest others were own j low now =
      ⊎_elim
      (λ (before : j < k).
      let apart : j ≢ k = λ is. absurd (omega arith) in
      started_on j most desk next keeps (were j before (record {
        whose = now.whose;
        made = now.made;
        was = now.was;
        is = sym (others j apart) ∙ now.is;
      })))
      (λ (not : k ≤ j).
      let here : j ≡ k = omega arith in
      subst (λ (i : ℕ). IsStartedAt Fits Keeps Begun Sound Other OtherBegun SoundOther is_first tags i next)
      (sym here)
      (own (subst (λ (i : ℕ). IsNowStarted i mid new) here (record {
        whose = now.whose;
        made = now.made;
        was = rest j not ∙ now.was;
        is = now.is;
      }))))
      (cases_lt j k)

  -- nobody behind them is started now
  pub no_more_started : (k places : ℕ) (row new : List Connection) (desk : ServerDesk W A P V Q R U d) → RestStays k row new
      → WereStartedAt Fits Keeps Begun Sound Other OtherBegun SoundOther is_first tags k row new desk
      → WereStartedAt Fits Keeps Begun Sound Other OtherBegun SoundOther is_first tags places row new desk
  no_more_started k places row new desk rest were j low now =
      ⊎_elim (λ (before : j < k). were j before now)
      (λ (not : k ≤ j). absurd (none_now j row new (rest j not) now)) (cases_lt j k)
