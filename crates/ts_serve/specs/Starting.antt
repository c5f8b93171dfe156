-- The handlers that are started in their places: what is in the row of them, and what stands behind that.
use Rattle.std.specs.Prelude.{◌≡◌, ◌≢◌, ℕ, ◌+◌, ◌<◌, ◌≤◌, List, Bool, true, false, cond, get_or, length}
use Rattle.std.specs.List.{sum_by}
use Rattle.ts_journal.specs.declared.entry.TheConstants.{GREATEST}
use Rattle.ts_journal.specs.declared.slotted.Slotted.{Ghosts}
use Rattle.ts_journal.specs.State.{State}
use Rattle.ts_group.specs.declared.action.Named.{Named}
use Rattle.ts_group.specs.declared.either.Either.{Either}
use Rattle.ts_group.specs.declared.either.EitherTag.{EitherTag}
use Rattle.ts_group.specs.declared.group.Group.{Group}
use Rattle.ts_group.specs.Either.{EitherFits, EitherSound, OfBoth, tag_of}
use Rattle.ts_slot.specs.declared.view.SeatView.{SeatView}
use Rattle.ts_slot.specs.Words.{view}
use Rattle.ts_thread.specs.declared.desk.Desk.{Desk}
use Rattle.ts_thread.specs.News.{HasPlaceAt}
use Rattle.ts_thread.specs.Started.{IsFirst, Started}
use Rattle.ts_serve.specs.declared.connection.Connection.{Connection}
use Rattle.ts_serve.specs.declared.connection.Connection.TheVariants.{Free, Accepted}
use Rattle.ts_serve.specs.declared.place.Place.{Place}
use Rattle.ts_serve.specs.declared.whose.Whose.{Whose}
use Rattle.ts_serve.specs.Places.{PlaceFits, PlaceSound, PlaceBegun}

-- the connections of other places are what they were
abbrev pub OthersStay : ℕ → List Connection → List Connection → Type 0
OthersStay k old new = (j : ℕ) → j ≢ k → get_or new j Free ≡ get_or old j Free

-- the connections of the places from the k-th on are what they were
abbrev pub RestStays : ℕ → List Connection → List Connection → Type 0
RestStays k old new = (j : ℕ) → k ≤ j → get_or new j Free ≡ get_or old j Free

-- The handler of the place k is in the row as one that was started, and had been in the row as one that was
-- not.
pub record IsNowStarted (k : ℕ) (old new : List Connection) : Type 0 where
  pub whose : Whose
  pub made : ℕ
  pub was : get_or old k Free ≡ Accepted whose false made
  pub is : get_or new k Free ≡ Accepted whose true made

-- 1 where a client is in the row whose handler waits to be started
abbrev pub is_waiting : Connection → ℕ
is_waiting Free = 0
is_waiting (Accepted whose started made) = cond started 0 1

-- Where the handler of the place k waits to be started still, it was tried: another seat held the place, and
-- the seat missed once more.
abbrev pub IsTriedAt : {G X : Type 0} → ℕ → List Connection → SeatView G X → SeatView G X → Type 0
IsTriedAt k row old new = length old.misses + is_waiting (get_or row k Free) ≤ length new.misses

-- Each handler that waits to be started still was tried in between: as often another seat held a place, and
-- the seat missed.
abbrev pub AreTried : {G X : Type 0} → List Connection → SeatView G X → SeatView G X → Type 0
AreTried row old new = length old.misses + sum_by is_waiting row ≤ length new.misses

module _ {W T A P V Q R U : Type 0}
    {d : Ghosts (Group (Either (Place W) P) Q R (EitherTag A V) U) (EitherTag A V)
    (Group (Either (Place W) P) Q R (EitherTag A V) U)}
    (Fits : T → W → Type 0) (Keeps : A → T → Type 0) (Begun : W → W → Type 0)
    (Sound : W → State → List Named → Type 0) (Other : V → P → Type 0) (OtherBegun : P → P → Type 0)
    (SoundOther : P → State → List Named → Type 0) (is_first : V → Bool) (tags : List (EitherTag A V)) where
  -- The group k was started in a turn of its own at this desk. Each event that this turn set has its token:
  -- in the queue, or, where the pass has no serial left, in the wheel.
  abbrev pub IsStartedAt : ℕ
      → Desk (Group (Either (Place W) P) Q R (EitherTag A V) U) (EitherTag A V)
      (Group (Either (Place W) P) Q R (EitherTag A V) U) d → Type 0
  IsStartedAt k desk =
      Started Q R U (EitherFits (PlaceFits Fits Keeps) Other)
      (IsFirst (tag_of (λ terms. false) is_first) tags) (OfBoth (PlaceBegun Begun) OtherBegun)
      (EitherSound (PlaceSound Sound) SoundOther) (HasPlaceAt GREATEST desk) (view desk.seat).known k

  -- each of so many handlers that is in the row as started now was started
  abbrev pub WereStartedAt : ℕ → List Connection → List Connection
      → Desk (Group (Either (Place W) P) Q R (EitherTag A V) U) (EitherTag A V)
      (Group (Either (Place W) P) Q R (EitherTag A V) U) d → Type 0
  WereStartedAt places old new desk = (k : ℕ) → k < places → IsNowStarted k old new → IsStartedAt k desk
