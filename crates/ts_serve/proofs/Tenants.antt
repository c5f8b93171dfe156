-- Who lives in a place, from when it is let in until it has ended.
use Rattle.std.proofs.Common.{◌≡◌, ℕ, suc, ◌+◌, ◌<◌, List, [], ◌∷◌, inl, Bool, false, refl, sym, ap, ◌∙◌}
use Rattle.std.proofs.Common.{subst, arith}
use Rattle.std.proofs.Common.{get_or, length, set}
use Rattle.std.proofs.lemmas.List.{get_or-set_same}
use Rattle.ts_lists.proofs.Places.{place_once}
use Rattle.ts_journal.specs.Log.{Log}
use Rattle.ts_journal.proofs.Final.{IsKept, is_final}
use Rattle.ts_journal.specs.State.{State}
use Rattle.ts_group.specs.declared.action.Named.{Named}
use Rattle.ts_group.specs.declared.either.Either.{Either}
use Rattle.ts_group.specs.declared.either.Either.TheVariants.{One}
use Rattle.ts_group.specs.declared.either.EitherTag.{EitherTag}
use Rattle.ts_group.specs.declared.either.EitherTag.TheVariants as tag
use Rattle.ts_group.specs.declared.group.Group.{Group}
use Rattle.ts_group.specs.Context.{IsFresh}
use Rattle.ts_group.specs.Either.{EitherFits, EitherSound, tag_of}
use Rattle.ts_group.specs.Slot.{IsAtRest}
use Rattle.ts_thread.specs.Tags.{GroupFits}
use Rattle.ts_serve.specs.Places.{PlaceFits, PlaceSound}
use Rattle.ts_serve.specs.Tenants.{FitPlacesFrom, FitsServer, FitsTerms, HasEndedIn, HasStoodIn, IsEmptyGroup}
use Rattle.ts_serve.specs.Tenants.{HoldsEnded, IsPlace, IsPlaceOf, MayLiveAt}
use Rattle.ts_serve.specs.Tenants.{HoldsHandler, StandsAccepted}
use Rattle.ts_serve.specs.declared.acceptor.TheConstants.{PLACES}
use Rattle.ts_serve.specs.declared.connection.Connection.{Connection}
use Rattle.ts_serve.specs.declared.connection.Connection.TheVariants.{Accepted, Free}
use Rattle.ts_serve.specs.declared.place.Place.{Place}
use Rattle.ts_serve.specs.declared.place.Place.TheVariants.{Tenant}
use Rattle.ts_serve.specs.declared.whose.Whose.{Whose}

-- one handler lives in a place
pub one_handler : {W P : Type 0} (v w : W) → ◌≡◌ {A = Either (Place W) P} (One (Tenant v)) (One (Tenant w))
    → v ≡ w
one_handler v w is = cc

module _ {W T A P U : Type 0} (Fits : T → W → Type 0) (Keeps : A → T → Type 0)
    (Sound : W → State → List Named → Type 0) (Other : U → P → Type 0)
    (SoundOther : P → State → List Named → Type 0) (only_asked is_first : U → Bool) {Q R X : Type 0} where
  -- a group that was just made is at rest
  rests : (turn : ℕ) (g : Group (Either (Place W) P) Q R (EitherTag A U) X) → IsFresh turn g.cx
      → IsAtRest false g.cx.log.state
  rests turn g fresh =
      let free : g.cx.log.state.held ≡ false = ap (λ (s : State). s.held) fresh.state in
      let next : g.cx.log.state.next ≡ 1 = ap (λ (s : State). s.next) fresh.state in
      (free, omega arith, tt)

  -- the group that was made of a handler, or of nobody, fits the place
  pub handler_fits : (tags : List (EitherTag A U)) (k turn : ℕ) (w : W)
      (g : Group (Either (Place W) P) Q R (EitherTag A U) X) → MayLiveAt Fits Keeps Sound tags k w
      → g.world ≡ One (Tenant w) → IsFresh turn g.cx
      → FitsServer Fits Keeps Sound Other SoundOther only_asked is_first tags k g
  handler_fits tags k turn w g may is fresh =
      let none : g.cx.log.state.pending ≡ [] = ap (λ (s : State). s.pending) fresh.state in (
        tag.One may.terms,
        may.place,
        (
          subst (λ v. EitherFits (PlaceFits Fits Keeps) Other (tag.One may.terms) v) (sym is) may.lives.fits,
          subst (λ v. EitherSound (PlaceSound Sound) SoundOther v g.cx.log.state g.cx.roles) (sym is)
              (may.lives.sound g.cx.log.state g.cx.roles none),
          rests turn g fresh,
          tt,
        ),
      )

  pub nobody_fits : (tags : List (EitherTag A U)) (k turn : ℕ)
      (g : Group (Either (Place W) P) Q R (EitherTag A U) X) → IsPlace tags k → IsEmptyGroup turn g
      → FitsServer Fits Keeps Sound Other SoundOther only_asked is_first tags k g
  nobody_fits tags k turn g place empty =
      let none : g.cx.log.state.pending ≡ [] = ap (λ (s : State). s.pending) empty.fresh.state in (
        tag.One place.0,
        place.1,
        (
          subst (λ v. EitherFits (PlaceFits Fits Keeps) Other (tag.One place.0) v) (sym empty.empty) tt,
          subst (λ v. EitherSound (PlaceSound Sound) SoundOther v g.cx.log.state g.cx.roles) (sym empty.empty)
              none,
          rests turn g empty.fresh,
          tt,
        ),
      )

  -- what fits the tag of a place fits its terms
  pub fits_terms : (tags : List (EitherTag A U)) (k : ℕ) (terms : A)
      (g : Group (Either (Place W) P) Q R (EitherTag A U) X)
      → FitsServer Fits Keeps Sound Other SoundOther only_asked is_first tags k g → IsPlaceOf tags k terms
      → FitsTerms Fits Keeps Sound Other SoundOther only_asked is_first terms g
  fits_terms tags k terms g fits place =
      subst (λ t. GroupFits (EitherFits (PlaceFits Fits Keeps) Other)
      (EitherSound (PlaceSound Sound) SoundOther) (tag_of (λ terms. false) only_asked)
      (tag_of (λ terms. false) is_first) t g) (place_once tags k fits.0 (tag.One terms) fits.1 place) fits.2

  -- the next of the groups of places fits its terms, and so do those that follow
  pub next_fits : (k : ℕ) (terms : A) (groups : List (Group (Either (Place W) P) Q R (EitherTag A U) X))
      (g : Group (Either (Place W) P) Q R (EitherTag A U) X)
      (rest : List (Group (Either (Place W) P) Q R (EitherTag A U) X)) → groups ≡ g ∷ rest → k < PLACES
      → FitPlacesFrom Fits Keeps Sound Other SoundOther only_asked is_first k terms groups
      → FitsTerms Fits Keeps Sound Other SoundOther only_asked is_first terms g
      × FitPlacesFrom Fits Keeps Sound Other SoundOther only_asked is_first (k + 1) terms rest
  next_fits k terms groups g rest is below fit =
      let here : FitPlacesFrom Fits Keeps Sound Other SoundOther only_asked is_first k terms (g ∷ rest) =
      subst (FitPlacesFrom Fits Keeps Sound Other SoundOther only_asked is_first k terms) is fit in
      (here 0 g (omega arith) refl, λ j h low at. here (suc j) h (omega arith) at)

  -- the handler of a place that has ended has ended in it
  pub ended_in : (whose_of : W → Whose) (is_ended : W → Bool) (whose : Whose)
      (terms : A) (g : Group (Either (Place W) P) Q R (EitherTag A U) X) (w : W) (journal : Log)
      → HoldsEnded Sound whose_of is_ended whose g.world → g.world ≡ One (Tenant w)
      → journal ≡ g.cx.log → IsKept g.cx.log
      → FitsTerms Fits Keeps Sound Other SoundOther only_asked is_first terms g
      → HasEndedIn Fits Keeps Sound is_ended terms w journal
  ended_in whose_of is_ended whose terms g w journal over is same kept fits =
      let handler : over.handler ≡ w = one_handler over.handler w (sym over.lives ∙ is) in
      let sound : Sound w g.cx.log.state g.cx.roles =
      subst (λ v. EitherSound (PlaceSound Sound) SoundOther v g.cx.log.state g.cx.roles) is fits.1 in
      let rests : g.cx.log.state.pending ≡ [] = over.rests g.cx.log.state g.cx.roles
      (subst (λ v. Sound v g.cx.log.state g.cx.roles) (sym handler) sound) in
      subst (HasEndedIn Fits Keeps Sound is_ended terms w) (sym same)
      (record {
        fits = subst (λ v. EitherFits (PlaceFits Fits Keeps) Other (tag.One terms) v) is fits.0;
        roles = g.cx.roles;
        sound = sound;
        ended = ap is_ended (sym handler) ∙ over.ended;
        final = is_final g.cx.log kept fits.2.0 rests;
      })

-- one that has ended in a place has stood there
pub stood_in : {W T A : Type 0} (Fits : T → W → Type 0) (Keeps : A → T → Type 0)
    (Sound : W → State → List Named → Type 0) (is_ended may_wait : W → Bool) (terms : A) (w : W) (journal : Log)
    → HasEndedIn Fits Keeps Sound is_ended terms w journal
    → HasStoodIn Fits Keeps Sound is_ended may_wait terms w journal
stood_in Fits Keeps Sound is_ended may_wait terms w journal ended = record {
  fits = ended.fits;
  roles = ended.roles;
  sound = ended.sound;
  stood = inl (ended.ended, ended.final);
}

-- a handler that was left in the place of its client stands there
pub stands_accepted : {W P Q R T U : Type 0} (whose_of : W → Whose)
    (known : List (ℕ × ℕ × Group (Either (Place W) P) Q R T U)) (row old : List Connection)
    (k group turn : ℕ) (whose : Whose) (w : W) → k < length old
    → row ≡ set old k (Accepted whose false turn) → whose_of w ≡ whose → group ≡ k
    → HoldsHandler group turn w known → StandsAccepted whose_of known row k
stands_accepted whose_of known row old k group turn whose w below is whose_is here holds = record {
  turn = turn;
  handler = w;
  holds = subst (λ n. HoldsHandler n turn w known) here holds;
  accepted = ap (λ r. get_or r k Free) is ∙ get_or-set_same old k (Accepted whose false turn) Free below
      ∙ ap (λ v. Accepted v false turn) (sym whose_is);
}
