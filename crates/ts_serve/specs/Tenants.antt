-- What holds of those who live in places, one after the other, and of what is left of them.
use Rattle.std.specs.Prelude.{◌≡◌, ◌⊎◌, ℕ, ◌+◌, ◌<◌, List, [], Bool, true, false, get_or, is_some}
use mathlib.Core.Option.{some}
use lib.ListN.{get_elem?}
use Rattle.ts_journal.specs.Log.{Log}
use Rattle.ts_journal.specs.Final.{IsFinal}
use Rattle.ts_journal.specs.State.{State}
use Rattle.ts_group.specs.declared.action.Named.{Named}
use Rattle.ts_group.specs.declared.either.Either.{Either}
use Rattle.ts_group.specs.declared.either.Either.TheVariants.{One}
use Rattle.ts_group.specs.declared.either.EitherTag.{EitherTag}
use Rattle.ts_group.specs.declared.either.EitherTag.TheVariants as tag
use Rattle.ts_group.specs.declared.group.Group.{Group}
use Rattle.ts_group.specs.Context.{IsFresh}
use Rattle.ts_group.specs.Either.{EitherFits, EitherSound, tag_of}
use Rattle.ts_thread.specs.Held.{FitsHere}
use Rattle.ts_thread.specs.Seats.{KnowsTurn}
use Rattle.ts_thread.specs.Tags.{GroupFits}
use Rattle.ts_txn.specs.Net.{IsHanded, NetSeen}
use Rattle.ts_txn.specs.declared.retired.Retired.{Retired}
use Rattle.ts_serve.specs.Places.{PlaceFits, PlaceSound}
use Rattle.ts_serve.specs.declared.acceptor.TheConstants.{PLACES}
use Rattle.ts_serve.specs.declared.connection.Connection.{Connection}
use Rattle.ts_serve.specs.declared.connection.Connection.TheVariants.{Accepted, Free}
use Rattle.ts_serve.specs.declared.place.Place.{Place}
use Rattle.ts_serve.specs.declared.place.Place.TheVariants.{Empty, Tenant}
use Rattle.ts_serve.specs.declared.whose.Whose.{Whose}

-- the group k is a place of these terms, and so is some group
abbrev pub IsPlaceOf : {A U : Type 0} → List (EitherTag A U) → ℕ → A → Type 0
IsPlaceOf tags k terms = get_elem? tags k ≡ some (tag.One terms)

abbrev pub IsPlace : {A U : Type 0} → List (EitherTag A U) → ℕ → Type 0
IsPlace {A = A} tags k = (terms : A) × IsPlaceOf tags k terms

-- the group of an empty place, as it is made with so many turns
pub record IsEmptyGroup {W P Q R T U : Type 0} (turns : ℕ) (g : Group (Either (Place W) P) Q R T U) :
    Type 0 where
  pub empty : g.world ≡ One Empty
  pub fresh : IsFresh turns g.cx

-- What a place promises of its group, and what the tag of a world promises that is only asked: it stands
-- beside the places.
module _ {W T A P U : Type 0} (Fits : T → W → Type 0) (Keeps : A → T → Type 0)
    (Sound : W → State → List Named → Type 0) (Other : U → P → Type 0)
    (SoundOther : P → State → List Named → Type 0) (only_asked is_first : U → Bool) where
  -- the group fits the terms of a place
  abbrev pub FitsTerms : {Q R X : Type 0} → A → Group (Either (Place W) P) Q R (EitherTag A U) X → Type 0
  FitsTerms terms g =
      GroupFits (EitherFits (PlaceFits Fits Keeps) Other) (EitherSound (PlaceSound Sound) SoundOther)
      (tag_of (λ terms. false) only_asked) (tag_of (λ terms. false) is_first) (tag.One terms) g

  -- Groups that stand from the group k on, in order: each of a place fits these terms.
  abbrev pub FitPlacesFrom : {Q R X : Type 0} → ℕ → A
      → List (Group (Either (Place W) P) Q R (EitherTag A U) X) → Type 0
  FitPlacesFrom {Q} {R} {X} k terms groups =
      (j : ℕ) (g : Group (Either (Place W) P) Q R (EitherTag A U) X) → k + j < PLACES
      → get_elem? groups j ≡ some g → FitsTerms terms g

  -- all groups of a server: each of a place fits these terms
  abbrev pub FitPlaces : {Q R X : Type 0} → A → List (Group (Either (Place W) P) Q R (EitherTag A U) X)
      → Type 0
  FitPlaces terms groups = FitPlacesFrom 0 terms groups

  -- the group fits the tag of the group k
  abbrev pub FitsServer : {Q R X : Type 0} → List (EitherTag A U) → ℕ
      → Group (Either (Place W) P) Q R (EitherTag A U) X → Type 0
  FitsServer tags k g =
      FitsHere (EitherFits (PlaceFits Fits Keeps) Other) (EitherSound (PlaceSound Sound) SoundOther)
      (tag_of (λ terms. false) only_asked) (tag_of (λ terms. false) is_first) tags k g

module _ {W T A : Type 0} (Fits : T → W → Type 0) (Keeps : A → T → Type 0)
    (Sound : W → State → List Named → Type 0) where
  -- It may be let into a place of these terms: it fits a tag that keeps them, and is sound where nothing is
  -- pending.
  pub record MayLive (terms : A) (w : W) : Type 0 where
    pub fits : PlaceFits Fits Keeps terms (Tenant w)
    pub sound : (s : State) (roles : List Named) → s.pending ≡ [] → Sound w s roles

  -- the same of the terms of the place k
  pub record MayLiveAt {U : Type 0} (tags : List (EitherTag A U)) (k : ℕ) (w : W) : Type 0 where
    pub terms : A
    pub place : IsPlaceOf tags k terms
    pub lives : MayLive terms w

  -- It lives in a place of these terms, and has ended there. The journal is that of its group.
  pub record HasEndedIn (is_ended : W → Bool) (terms : A) (w : W) (journal : Log) : Type 0 where
    pub fits : PlaceFits Fits Keeps terms (Tenant w)
    pub roles : List Named
    pub sound : Sound w journal.state roles
    pub ended : is_ended w ≡ true
    pub final : IsFinal journal

  -- It lives in a place of these terms, and has ended there, or waits for its client without end. The journal
  -- is that of its group.
  pub record HasStoodIn (is_ended may_wait : W → Bool) (terms : A) (w : W) (journal : Log) : Type 0 where
    pub fits : PlaceFits Fits Keeps terms (Tenant w)
    pub roles : List Named
    pub sound : Sound w journal.state roles
    pub stood : ((is_ended w ≡ true) × IsFinal journal) ⊎ (may_wait w ≡ true)

-- In a place lives this handler, which has ended, so that nothing of it is pending.
pub record HoldsEnded {W P : Type 0} (Sound : W → State → List Named → Type 0) (whose_of : W → Whose)
    (is_ended : W → Bool) (whose : Whose) (world : Either (Place W) P) : Type 0 where
  pub handler : W
  pub lives : world ≡ One (Tenant handler)
  pub ended : is_ended handler ≡ true
  pub rests : (s : State) (roles : List Named) → Sound handler s roles → s.pending ≡ []
  pub whose_is : whose_of handler ≡ whose

-- In a place lives this handler, which has not ended.
pub record HoldsRunning {W P : Type 0} (whose_of : W → Whose) (is_ended : W → Bool) (whose : Whose)
    (world : Either (Place W) P) : Type 0 where
  pub handler : W
  pub lives : world ≡ One (Tenant handler)
  pub lasts : is_ended handler ≡ false
  pub whose_is : whose_of handler ≡ whose

-- The net was handed what is left of this client, with an origin, if one was reached for it, and of it holds
-- what holds of one that is done.
pub record HandsOver {C O : Type 0} (tells : Bool) (Done : Retired C O → Type 0) (whose : Whose)
    (old new : NetSeen C O) : Type 0 where
  pub retired : Retired C O
  pub handed : IsHanded tells retired old new
  pub number_is : retired.parts.number ≡ whose.number
  pub origin_is : is_some retired.parts.origin ≡ whose.has_origin
  pub done : Done retired

-- what the net was handed has this journal
pub record HandsJournal {C O : Type 0} (tells : Bool) (journal : Log) (old new : NetSeen C O) : Type 0 where
  pub retired : Retired C O
  pub handed : IsHanded tells retired old new
  pub journal_is : retired.journal ≡ journal

-- ---- who stands in a place

-- The seat knows that this handler was left in the group k, in this turn, in a new group.
pub record HoldsHandler {W P Q R T U : Type 0} (k turn : ℕ) (w : W)
    (known : List (ℕ × ℕ × Group (Either (Place W) P) Q R T U)) : Type 0 where
  pub group : Group (Either (Place W) P) Q R T U
  pub lives : group.world ≡ One (Tenant w)
  pub fresh : IsFresh turn group.cx
  pub known_is : KnowsTurn k turn group known

-- In the place k a handler was left, which is that of the client that was accepted there.
pub record StandsAccepted {W P Q R T U : Type 0} (whose_of : W → Whose)
    (known : List (ℕ × ℕ × Group (Either (Place W) P) Q R T U)) (row : List Connection) (k : ℕ) : Type 0 where
  pub turn : ℕ
  pub handler : W
  pub holds : HoldsHandler k turn handler known
  pub accepted : get_or row k Free ≡ Accepted (whose_of handler) false turn
