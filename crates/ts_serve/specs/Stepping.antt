-- How the first thread goes on with a client whose handler has ended.
use Rattle.std.specs.Prelude.{◌≡◌, ◌⊎◌, ◌<◌, ℕ, ◌+◌, Bool, true, false, List, [], ◌∷◌, ◌++◌, Option, Some}
use Rattle.std.specs.Prelude.{None, Result, Ok, Err}
use Rattle.std.specs.Prelude.{IfSome, get_or, length, set}
use Rattle.ts_group.specs.declared.either.Either.{Either}
use Rattle.ts_group.specs.declared.group.Group.{Group}
use Rattle.ts_journal.specs.Machine.{HasLived}
use Rattle.ts_journal.specs.declared.slotted.Slotted.{Ghosts}
use Rattle.ts_slot.specs.declared.seat.Turn.{Turn}
use Rattle.ts_thread.specs.Entering.{IsSameTurn}
use Rattle.ts_txn.specs.Net.{IsHanded, NetSeen}
use Rattle.ts_txn.specs.declared.retired.Noted.{Noted}
use Rattle.ts_txn.specs.declared.retired.Retired.{Retired}
use Rattle.ts_serve.specs.Notes.{NotesAndDials}
use Rattle.ts_serve.specs.Whose.{next_of, noted_of}
use Rattle.ts_serve.specs.Arrivals.{IsNotAccepting}
use Rattle.ts_serve.specs.Balance.{HasNoMore}
use Rattle.ts_serve.specs.Starting.{OthersStay}
use Rattle.ts_serve.specs.Tenants.{StandsAccepted}
use Rattle.ts_serve.specs.declared.connection.Connection.{Connection}
use Rattle.ts_serve.specs.declared.connection.Connection.TheVariants.{Accepted, Free}
use Rattle.ts_serve.specs.declared.place.Place.{Place}
use Rattle.ts_serve.specs.declared.whose.Whose.{Whose}

-- the client is the same one, at the same place in its session or at the next one
pub record Succeeds (old new : Whose) : Type 0 where
  pub number : new.number ≡ old.number
  pub place : (new.place ≡ old.place) ⊎ (new.place ≡ old.place + 1)

-- this client is in the row for the place k, as one whose handler was started
pub record IsStartedIn (k : ℕ) (whose : Whose) (row : List Connection) : Type 0 where
  pub below : k < length row
  pub made : ℕ
  pub accepted : get_or row k Free ≡ Accepted whose true made

-- the connection of the place k alone may change
pub record ChangesAt (k : ℕ) (old new : List Connection) : Type 0 where
  pub count : length new ≡ length old
  pub others : OthersStay k old new

-- The net was not asked for a client, and no more of them are in the row, or were handed over, than were
-- given.
pub record KeepsGiven {C O : Type 0} (row row' : List Connection) (before after : NetSeen C O) : Type 0 where
  pub net : IsNotAccepting before after
  pub no_more : HasNoMore row before → HasNoMore row' after

-- Another handler of the client comes next, in a group that is made with so many turns, and is in the row for
-- the place k as one that was not started.
pub record ComesNext (k made : ℕ) (whose next : Whose) (row row' : List Connection) : Type 0 where
  pub succeeds : Succeeds whose next
  pub is : row' ≡ set row k (Accepted next false made)

-- whoever comes next is in the row so; where nobody comes the place is free
abbrev pub IsNextIn : {W : Type 0} → (W → Whose) → ℕ → ℕ → Whose → List Connection → List Connection
    → Option W → Type 0
IsNextIn whose_of k made whose row row' None = row' ≡ set row k Free
IsNextIn whose_of k made whose row row' (Some w) = ComesNext k made whose (whose_of w) row row'

-- the next handler of an answer, if it has one
abbrev pub next_in : {W E : Type 0} → Result (Option W) E → Option W
next_in (Ok next) = next
next_in (Err e) = None

-- What comes of a client whose handler was taken apart. The words say of which terms this becomes of it,
-- which are those of the setting, whether a handler may live under some, and what the terms are of a client
-- with notes.
module _ {W A C O : Type 0} (tells : Bool) (Becomes : A → Type 0) (Are : A → Type 0) (Lives : A → W → Type 0)
    (behind : A → List (Noted O) → A) (Done : A → Retired C O → Type 0) (k made : ℕ) (whose : Whose)
    (row row' : List Connection) (before after : NetSeen C O) (next : Option W) where
  -- nothing was done, since memory lacked
  pub record ComesOfNothing : Type 0 where
    pub nobody : next ≡ None
    pub row_is : row' ≡ row
    pub net_is : after ≡ before

  -- what is left of it was handed over, and the place is free
  pub record Goes : Type 0 where
    pub nobody : next ≡ None
    pub retired : Retired C O
    pub handed : IsHanded tells retired before after
    pub number_is : retired.parts.number ≡ whose.number
    pub done : (terms : A) → Becomes terms → Done terms retired
    pub row_is : row' ≡ set row k Free

  -- another handler of it comes next at the same place in its session
  pub record Waits : Type 0 where
    pub net_is : after ≡ before
    pub row_is : row' ≡ set row k (Accepted whose false made)
    pub lives : IfSome next (λ w. (terms : A) → Becomes terms → Lives terms w)

  -- its transaction was noted, and the handler of the next one comes next, unless memory lacked for it
  pub record Proceeds : Type 0 where
    pub noted : Noted O
    pub reached : Bool
    pub whose_is : noted_of noted ≡ whose
    pub dials : NotesAndDials tells noted reached before after
    pub row_is : row' ≡ set row k (Accepted (next_of noted reached) false made)
    pub lives : IfSome next (λ w. (terms : A) → Are terms → Becomes terms → Lives terms w)
    pub follows : IfSome next (λ w. (terms : A) (notes : List (Noted O)) → Are terms
        → Becomes (behind terms notes) → Lives (behind terms (notes ++ noted ∷ [])) w)

  abbrev pub IsFollowed : Type 0
  IsFollowed = ComesOfNothing ⊎ (Goes ⊎ (Waits ⊎ Proceeds))

module _ {W P Q R T U : Type 0} where
  -- It is the same turn of the same group, and what it found has lived since its journal was made.
  pub record IsOpened {d : Ghosts (Group (Either (Place W) P) Q R T U) T (Group (Either (Place W) P) Q R T U)}
      (old new : Turn (Group (Either (Place W) P) Q R T U) T (Group (Either (Place W) P) Q R T U) d) :
      Type 0 where
    pub same : IsSameTurn old new
    pub lived : HasLived old.boxed.value.cx.log.base.made old.boxed.value.cx.log.state

  -- another handler of the client stands in the place k, and is in the row there
  pub record MovesOn (whose_of : W → Whose) (k : ℕ) (whose : Whose) (row : List Connection)
      (known : List (ℕ × ℕ × Group (Either (Place W) P) Q R T U)) : Type 0 where
    pub stands : StandsAccepted whose_of known row k
    pub succeeds : Succeeds whose (whose_of stands.handler)

  -- the client goes out of the row, or another handler of it stands in its place
  abbrev pub ComesTo : (W → Whose) → ℕ → Whose → List Connection → List Connection
      → List (ℕ × ℕ × Group (Either (Place W) P) Q R T U) → Type 0
  ComesTo whose_of k whose row row' known =
      (row' ≡ set row k Free) ⊎ MovesOn whose_of k whose row' known
