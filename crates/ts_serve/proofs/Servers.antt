-- The groups of a server: as they are made each fits its tag, and as they are left too.
use Rattle.std.proofs.Common.{◌≡◌, ℕ, zero, suc, ◌+◌, ◌<◌, List, [], ◌∷◌, ◌++◌, Bool, true, false, All}
use Rattle.std.proofs.Common.{length, length-append, map, replicate, refl, sym, ap, ◌∙◌, subst, arith}
use Rattle.std.proofs.lemmas.Bool.{OnTrue_from}
use Rattle.std.proofs.lemmas.List.{append_assoc, length-map, length-replicate}
use Rattle.std.proofs.lemmas.List.Elements.{All-head, All-nil, All-push, All-tail}
use Rattle.std.proofs.lemmas.Slice.Zip.{all_zipped_more}
use mathlib.Core.Option.{some}
use lib.ListN.{get_elem?}
use Rattle.ts_lists.proofs.Pairs.{zip_at_place}
use Rattle.ts_lists.proofs.Places.{place_once}
use Rattle.ts_journal.specs.State.{State}
use Rattle.ts_group.specs.declared.action.Named.{Named}
use Rattle.ts_group.specs.declared.either.Either.{Either}
use Rattle.ts_group.specs.declared.either.Either.TheVariants.{Other}
use Rattle.ts_group.specs.declared.either.EitherTag.{EitherTag}
use Rattle.ts_group.specs.declared.either.EitherTag.TheVariants as tag
use Rattle.ts_group.specs.declared.group.Group.{Group}
use Rattle.ts_group.specs.Context.{IsFresh}
use Rattle.ts_group.specs.Either.{EitherFits, EitherSound, tag_of}
use Rattle.ts_group.specs.Slot.{IsAtRest}
use Rattle.ts_slot.specs.Lists.{Each}
use Rattle.ts_thread.specs.Tags.{GroupFits}
use Rattle.ts_thread.specs.Threads.{HasHadTurns}
use Rattle.ts_thread.proofs.Ended.{fit_count}
use Rattle.ts_serve.specs.Acceptor.{HasPlacesOf}
use Rattle.ts_serve.specs.Tenants.{FitPlaces, IsEmptyGroup}
use Rattle.ts_serve.specs.Opening.{AreNewGroups, FitServer}
use Rattle.ts_serve.specs.Places.{PlaceFits, PlaceSound}
use Rattle.ts_serve.specs.Servers.{StandsBeside, server_tags}
use Rattle.ts_serve.specs.declared.acceptor.TheConstants.{PLACES}
use Rattle.ts_exchange.specs.declared.plugins.Tagged.{Tagged}
use Rattle.ts_serve.specs.declared.place.Place.{Place}

-- a place below so many equal tags has this one
tag_at : {A : Type 0} (n k : ℕ) (t : A) (behind : List A) → k < n
    → get_elem? (replicate n t ++ behind) k ≡ some t
tag_at zero k t behind below = absurd (omega (arith, below))
tag_at (suc n) zero t behind below = refl
tag_at (suc n) (suc k) t behind below = tag_at n k t behind (omega (arith, below))

-- the first groups of a server are places of its terms
pub server_places : {A P U : Type 0} (terms : A) (others : List (Tagged P U))
    → HasPlacesOf (server_tags terms others) terms
server_places terms others k below =
    tag_at PLACES k (tag.One terms) (map (λ b. tag.Other b.tag) others) below

-- a group of a world that is only asked is at rest before its first turn
rests_asked : (asked : Bool) (s : State) → asked ≡ true → s.held ≡ false → s.next ≡ 1 → s.pending ≡ []
    → IsAtRest asked s
rests_asked true s is given one none = (given, omega (arith, one), none)
rests_asked false s is given one none = absurd (cc)

-- as many tags as places and worlds beside them
pub server_long : {A P U : Type 0} (terms : A) (others : List (Tagged P U))
    → length (server_tags terms others) ≡ PLACES + length others
server_long {A = A} {U = U} terms others =
    let front : List (EitherTag A U) = replicate PLACES (tag.One terms) in
    let back : List (EitherTag A U) = map (λ b. tag.Other b.tag) others in
    let all : length (front ++ back) ≡ length front + length back = length-append front back in
    let first : length front ≡ PLACES = length-replicate {A = EitherTag A U} PLACES (tag.One terms) in
    let behind : length back ≡ length others = length-map others (λ b. tag.Other b.tag) in
    omega (arith, all, first, behind)

-- the tag of one world more, and those of the worlds behind it
pub others_on : {A P U : Type 0} (tags us all : List (EitherTag A U)) (bs cs : List (Tagged P U))
    (b : Tagged P U) → us ≡ tags ++ tag.Other b.tag ∷ [] → bs ≡ b ∷ cs
    → tags ++ map (λ b. tag.Other b.tag) bs ≡ all → us ++ map (λ b. tag.Other b.tag) cs ≡ all
others_on tags us all bs cs b more is before =
    ap (λ ts. ts ++ map (λ b. tag.Other b.tag) cs) more
    ∙ append_assoc tags (tag.Other b.tag ∷ []) (map (λ b. tag.Other b.tag) cs)
    ∙ sym (ap (λ xs. tags ++ map (λ b. tag.Other b.tag) xs) is) ∙ before

-- groups that have had no turn have the stamp 0
pub new_stamps : {W Q R T U : Type 0} (groups : List (Group W Q R T U)) → All (HasHadTurns 0) groups
    → Each (λ g. g.cx.log.state.turns ≡ 0) groups
new_stamps [] new = tt
new_stamps (g ∷ gs) new =
    let none = All-head (HasHadTurns 0) g gs new in
    (omega (arith, none), new_stamps gs (All-tail (HasHadTurns 0) g gs new))

module _ {W T A P U : Type 0} (Fits : T → W → Type 0) (Keeps : A → T → Type 0)
    (Sound : W → State → List Named → Type 0) (Others : U → P → Type 0)
    (SoundOther : P → State → List Named → Type 0) (only_asked is_first : U → Bool) {Q R X : Type 0} where
  -- the group fits this tag of a server
  abbrev pub FitsTag : EitherTag A U → Group (Either (Place W) P) Q R (EitherTag A U) X → Type 0
  FitsTag t g =
      GroupFits (EitherFits (PlaceFits Fits Keeps) Others) (EitherSound (PlaceSound Sound) SoundOther)
      (tag_of (λ terms. false) only_asked) (tag_of (λ terms. false) is_first) t g

  -- before the first of them
  pub new_none : AreNewGroups Fits Keeps Sound Others SoundOther only_asked is_first {Q = Q} {R = R} {X = X}
      [] []
  new_none = record { fit = tt; new = All-nil (HasHadTurns 0) }

  -- one group more
  pub new_more : (tags us : List (EitherTag A U))
      (groups hs : List (Group (Either (Place W) P) Q R (EitherTag A U) X)) (t : EitherTag A U)
      (g : Group (Either (Place W) P) Q R (EitherTag A U) X)
      → AreNewGroups Fits Keeps Sound Others SoundOther only_asked is_first tags groups → us ≡ tags ++ t ∷ []
      → hs ≡ groups ++ g ∷ [] → FitsTag t g → HasHadTurns 0 g
      → AreNewGroups Fits Keeps Sound Others SoundOther only_asked is_first us hs
  new_more tags us groups hs t g are more moreover fits new =
      subst (λ ts. AreNewGroups Fits Keeps Sound Others SoundOther only_asked is_first ts hs) (sym more)
      (subst (λ gs. AreNewGroups Fits Keeps Sound Others SoundOther only_asked is_first (tags ++ t ∷ []) gs)
      (sym moreover) (record {
        fit = all_zipped_more FitsTag tags groups t g are.fit fits;
        new = All-push (HasHadTurns 0) groups g are.new new;
      }))

  -- what was just made has had no turn
  pub new_turns : (g : Group (Either (Place W) P) Q R (EitherTag A U) X) → IsFresh 0 g.cx → HasHadTurns 0 g
  new_turns g fresh = let none = ap (λ (s : State). s.turns) fresh.state in omega (arith, none)

  -- the group of an empty place fits whatever terms
  pub empty_fits : (terms : A) (g : Group (Either (Place W) P) Q R (EitherTag A U) X) → IsEmptyGroup 0 g
      → FitsTag (tag.One terms) g
  empty_fits terms g empty =
      let fresh = empty.fresh in
      let none : g.cx.log.state.pending ≡ [] = ap (λ (s : State). s.pending) fresh.state in
      let free : g.cx.log.state.held ≡ false = ap (λ (s : State). s.held) fresh.state in
      let next : g.cx.log.state.next ≡ 1 = ap (λ (s : State). s.next) fresh.state in (
        subst (λ v. EitherFits (PlaceFits Fits Keeps) Others (tag.One terms) v) (sym empty.empty) tt,
        subst (λ v. EitherSound (PlaceSound Sound) SoundOther v g.cx.log.state g.cx.roles) (sym empty.empty)
            none,
        (free, omega (arith, next), tt),
        tt,
      )

  -- the group that was made of a world beside the places fits its tag
  pub other_fits : (b : Tagged P U) (g : Group (Either (Place W) P) Q R (EitherTag A U) X)
      → StandsBeside Others SoundOther only_asked b → g.world ≡ Other b.world → IsFresh 0 g.cx
      → FitsTag (tag.Other b.tag) g
  other_fits b g stands is fresh =
      let none : g.cx.log.state.pending ≡ [] = ap (λ (s : State). s.pending) fresh.state in
      let free : g.cx.log.state.held ≡ false = ap (λ (s : State). s.held) fresh.state in
      let next : g.cx.log.state.next ≡ 1 = ap (λ (s : State). s.next) fresh.state in (
        subst (λ v. EitherFits (PlaceFits Fits Keeps) Others (tag.Other b.tag) v) (sym is) stands.fits,
        subst (λ v. EitherSound (PlaceSound Sound) SoundOther v g.cx.log.state g.cx.roles) (sym is)
            (stands.sound g.cx fresh),
        rests_asked (only_asked b.tag) g.cx.log.state stands.asked free next none,
        OnTrue_from (is_first b.tag) (g.cx.log.base.made ≡ 0) (λ first. ap (λ b. b.made) fresh.base),
      )

  -- where each group of a server fits its tag, those of the places fit their terms
  pub fit_places : (tags : List (EitherTag A U)) (terms : A)
      (groups : List (Group (Either (Place W) P) Q R (EitherTag A U) X)) → HasPlacesOf tags terms
      → FitServer Fits Keeps Sound Others SoundOther only_asked is_first tags groups
      → FitPlaces Fits Keeps Sound Others SoundOther only_asked is_first terms groups
  fit_places tags terms groups places fit j g below at =
      let here = zip_at_place FitsTag tags groups j (tag.One terms) fit
      (places j (omega (arith, below))) in
      subst (FitsTag (tag.One terms)) (place_once groups j here.0 g here.1 at) here.2

  -- as many groups as tags
  pub new_count : (tags : List (EitherTag A U))
      (groups : List (Group (Either (Place W) P) Q R (EitherTag A U) X))
      → AreNewGroups Fits Keeps Sound Others SoundOther only_asked is_first tags groups
      → length groups ≡ length tags
  new_count tags groups are = fit_count FitsTag tags groups are.fit
