-- What the first thread knows of the handlers in the places: each was left there under the terms of a client
-- that has its notes behind it.
use Rattle.std.specs.Prelude.{◌≡◌, ℕ, List, Bool, true, get_or}
use Rattle.ts_group.specs.declared.either.Either.{Either}
use Rattle.ts_group.specs.declared.either.EitherTag.{EitherTag}
use Rattle.ts_group.specs.declared.either.EitherTag.TheVariants as tag
use Rattle.ts_group.specs.declared.group.Group.{Group}
use Rattle.ts_group.specs.Either.{EitherFits}
use Rattle.ts_journal.specs.declared.slotted.Slotted.{Ghosts}
use Rattle.ts_thread.specs.declared.desk.Desk.{Desk}
use Rattle.ts_thread.specs.Seats.{KnowsTurn}
use Rattle.ts_txn.specs.Net.{NetSeen}
use Rattle.ts_txn.specs.declared.retired.Noted.{Noted}
use Rattle.ts_txn.specs.declared.retired.Retired.{Retired}
use Rattle.ts_serve.specs.Notes.{AreBooks, HadSessions, notes_of}
use Rattle.ts_serve.specs.Places.{PlaceFits}
use Rattle.ts_serve.specs.declared.connection.Connection.{Connection}
use Rattle.ts_serve.specs.declared.connection.Connection.TheVariants.{Accepted, Free}
use Rattle.ts_serve.specs.declared.place.Place.{Place}
use Rattle.ts_serve.specs.declared.whose.Whose.{Whose}

-- what a seat knows of the groups of a server, turn by turn
abbrev pub KnownGroups : (W A P V Q R U : Type 0) → Type 0
KnownGroups W A P V Q R U = List (ℕ × ℕ × Group (Either (Place W) P) Q R (EitherTag A V) U)

-- a desk of a thread of the server
abbrev pub ServerDesk : (W A P V Q R U : Type 0)
    → Ghosts (Group (Either (Place W) P) Q R (EitherTag A V) U) (EitherTag A V)
    (Group (Either (Place W) P) Q R (EitherTag A V) U)
    → Type 0
ServerDesk W A P V Q R U d =
    Desk (Group (Either (Place W) P) Q R (EitherTag A V) U) (EitherTag A V)
    (Group (Either (Place W) P) Q R (EitherTag A V) U) d

module _ {W T A P V : Type 0} (Fits : T → W → Type 0) (Keeps : A → T → Type 0) (Other : V → P → Type 0) where
  -- In this turn the seat left a group in the place k that was made in it, and that fits these terms.
  pub record KnowsPlace {Q R U : Type 0} (terms : A) (known : KnownGroups W A P V Q R U) (k turn : ℕ)
      : Type 0 where
    pub group : Group (Either (Place W) P) Q R (EitherTag A V) U
    pub made : group.cx.log.base.made ≡ turn
    pub fits : EitherFits (PlaceFits Fits Keeps) Other (tag.One terms) group.world
    pub known_is : KnowsTurn k turn group known

module _ {W T A P V O : Type 0} (Fits : T → W → Type 0) (Keeps : A → T → Type 0) (Other : V → P → Type 0)
    (behind : A → List (Noted O) → A) (terms : A) where
  -- the terms are those of a client which has these transactions behind it
  abbrev pub KnowsHandler : {Q R U : Type 0} → KnownGroups W A P V Q R U → ℕ → ℕ → List (Noted O) → Type 0
  KnowsHandler known k turn notes = KnowsPlace Fits Keeps Other (behind terms notes) known k turn

  module _ {C Q R U : Type 0} where
    -- so it did for each client in the row, whose notes the net has
    abbrev pub KnowsAll : KnownGroups W A P V Q R U → List Connection → NetSeen C O → Type 0
    KnowsAll known row net =
        (k : ℕ) (whose : Whose) (started : Bool) (made : ℕ) → get_or row k Free ≡ Accepted whose started made
        → KnowsHandler known k made (notes_of whose.number net.noted)

    -- THE SESSIONS of a server: the first thread knows the handler of each client in the row, and each client
    -- that was handed over had its session, which is the terms' that its notes were behind it.
    pub record KnowsSessions (Done : A → Retired C O → Type 0) (known : KnownGroups W A P V Q R U)
        (row : List Connection) (net : NetSeen C O) : Type 0 where
      pub knows : KnowsAll known row net
      pub had : HadSessions (λ notes. Done (behind terms notes)) net

-- what holds of a client that was handed over where memory did not lack: it is done, and nothing is left over
abbrev pub DoneAndSpent : {A B : Type 0} → (A → B → Type 0) → (A → B → Type 0) → A → B → Type 0
DoneAndSpent Done Spent terms r = Done terms r × Spent terms r

module _ {W T A P V C O : Type 0} (Fits : T → W → Type 0) (Keeps : A → T → Type 0) (Other : V → P → Type 0)
    (behind : A → List (Noted O) → A) (Done Spent : A → Retired C O → Type 0) (Note : A → Noted O → Type 0)
  where
    -- A server is served under these terms: its books are right, and so are its sessions.
    pub record IsServing {Q R U : Type 0} (terms : A) (misdials : ℕ) (known : KnownGroups W A P V Q R U)
        (row : List Connection) (net : NetSeen C O) : Type 0 where
      pub books : AreBooks (Done terms) (Note terms) misdials row net
      pub sessions : KnowsSessions Fits Keeps Other behind terms (DoneAndSpent Done Spent) known row net

    -- it goes on to be served so, as far as the seat knows by then
    abbrev pub ServesOn : {Q R U : Type 0} → A → KnownGroups W A P V Q R U → List Connection → List Connection
        → NetSeen C O → NetSeen C O → Type 0
    ServesOn terms known row row' before after =
        (misdials : ℕ) → IsServing terms misdials known row before → IsServing terms misdials known row' after

    -- where the net tells, it goes on to be served so, under any terms that are these
    abbrev pub KeepsServing : {Q R U : Type 0} → Bool → (A → Type 0) → KnownGroups W A P V Q R U
        → KnownGroups W A P V Q R U → List Connection → List Connection → NetSeen C O → NetSeen C O → Type 0
    KeepsServing tells Are known known' row row' before after =
        tells ≡ true → (terms : A) → Are terms → (misdials : ℕ) → IsServing terms misdials known row before
        → IsServing terms misdials known' row' after
