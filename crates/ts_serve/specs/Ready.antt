-- Who is roused where the net says that clients are ready.
use Rattle.std.specs.Prelude.{◌≡◌, ℕ, ◌<◌, ◌⊎◌, ◌==◌, ◌&&◌, List, Bool, true, false, get_or, length}
use Rattle.ts_journal.specs.declared.slotted.Slotted.{Ghosts}
use Rattle.ts_journal.specs.State.{State}
use Rattle.ts_group.specs.declared.action.Named.{Named}
use Rattle.ts_group.specs.declared.either.Either.{Either}
use Rattle.ts_group.specs.declared.either.EitherTag.{EitherTag}
use Rattle.ts_group.specs.declared.group.Group.{Group}
use Rattle.ts_group.specs.Either.{EitherFits, EitherSound, tag_of}
use Rattle.ts_slot.specs.Lists.{IsIn}
use Rattle.ts_slot.specs.Words.{view}
use Rattle.ts_thread.specs.declared.desk.Desk.{Desk}
use Rattle.ts_thread.specs.News.{HasPlaceAt}
use Rattle.ts_thread.specs.Started.{IsFirst, Roused}
use Rattle.ts_serve.specs.declared.acceptor.TheConstants.{PLACES}
use Rattle.ts_serve.specs.declared.connection.Connection.{Connection}
use Rattle.ts_serve.specs.declared.connection.Connection.TheVariants.{Free, Accepted}
use Rattle.ts_serve.specs.declared.place.Place.{Place}
use Rattle.ts_serve.specs.Places.{PlaceFits, PlaceSound}

-- a handler was started there that serves the client of a number
abbrev pub serves_client : ℕ → Connection → Bool
serves_client number Free = false
serves_client number (Accepted whose started made) = started && (whose.number == number)

-- the place k has such a handler
abbrev pub IsPlaceFor : ℕ → ℕ → List Connection → Type 0
IsPlaceFor number k row = (k < PLACES) × (serves_client number (get_or row k Free) ≡ true)

-- no place has one
abbrev pub HasNoPlace : ℕ → List Connection → Type 0
HasNoPlace number row = (k : ℕ) → k < PLACES → serves_client number (get_or row k Free) ≡ false

-- whoever stands in the one list stands in the other
abbrev pub StandsIn : List ℕ → List ℕ → Type 0
StandsIn old new = (number : ℕ) → IsIn number old → IsIn number new

module _ {W T A P V Q R U : Type 0}
    {d : Ghosts (Group (Either (Place W) P) Q R (EitherTag A V) U) (EitherTag A V)
    (Group (Either (Place W) P) Q R (EitherTag A V) U)}
    (Fits : T → W → Type 0) (Keeps : A → T → Type 0) (Sound : W → State → List Named → Type 0)
    (Other : V → P → Type 0) (SoundOther : P → State → List Named → Type 0) (is_first : V → Bool)
    (tags : List (EitherTag A V)) (row : List Connection) (moment : ℕ) where
  -- The client of a number need not be tried again: no handler that was started serves it, or one was roused
  -- in a turn of its own at this desk, each event of which has its token.
  abbrev pub IsSettledAt : ℕ
      → Desk (Group (Either (Place W) P) Q R (EitherTag A V) U) (EitherTag A V)
      (Group (Either (Place W) P) Q R (EitherTag A V) U) d → Type 0
  IsSettledAt number desk = HasNoPlace number row ⊎
      ((k : ℕ) × IsPlaceFor number k row
      × Roused Q R U (EitherFits (PlaceFits Fits Keeps) Other)
      (IsFirst (tag_of (λ terms. false) is_first) tags)
      (EitherSound (PlaceSound Sound) SoundOther) (HasPlaceAt moment desk) (view desk.seat).known k)

  -- It is settled, or its number is left.
  abbrev pub IsLeft : ℕ → List ℕ
      → Desk (Group (Either (Place W) P) Q R (EitherTag A V) U) (EitherTag A V)
      (Group (Either (Place W) P) Q R (EitherTag A V) U) d → Type 0
  IsLeft number left desk = IsIn number left ⊎ IsSettledAt number desk

  -- So it is of the first so many names.
  abbrev pub FirstAreLeft : ℕ → List ℕ → List ℕ
      → Desk (Group (Either (Place W) P) Q R (EitherTag A V) U) (EitherTag A V)
      (Group (Either (Place W) P) Q R (EitherTag A V) U) d → Type 0
  FirstAreLeft count names left desk = (j : ℕ) → j < count → IsLeft (get_or names j 0) left desk

  -- So it is of each of them.
  abbrev pub AreLeft : List ℕ → List ℕ
      → Desk (Group (Either (Place W) P) Q R (EitherTag A V) U) (EitherTag A V)
      (Group (Either (Place W) P) Q R (EitherTag A V) U) d → Type 0
  AreLeft names left desk = FirstAreLeft (length names) names left desk
