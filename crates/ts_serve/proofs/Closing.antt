-- How a server is closed in which clients went on: what stands in a place at the close, as the first thread
-- left it there, lives under the terms of a client with its notes behind it, and goes on to do so while what
-- is left is handled; so each client that is handed over then had its session.
use Rattle.std.proofs.Common.{◌≡◌, ◌≢◌, ◌∙◌, ℕ, zero, suc, ◌+◌, ◌<◌, List, [], ◌∷◌, Bool, false, true, inl}
use Rattle.std.proofs.Common.{inr}
use Rattle.std.proofs.Common.{ap, drop, get_or, is_some, length, map, refl, set, subst, sym, arith}
use Rattle.std.specs.List.{AllZip}
use mathlib.Core.Option.{some, some-injective, some-ne-none}
use lib.ListN.{get_elem?}
use Rattle.ts_lists.proofs.Pairs.{zip_at_place}
use Rattle.ts_lists.proofs.Places.{place_once}
use Rattle.ts_journal.specs.State.{State}
use Rattle.ts_group.specs.declared.action.Named.{Named}
use Rattle.ts_group.specs.declared.either.Either.{Either}
use Rattle.ts_group.specs.declared.either.EitherTag.{EitherTag}
use Rattle.ts_group.specs.declared.either.EitherTag.TheVariants as tag
use Rattle.ts_group.specs.declared.group.Group.{Group}
use Rattle.ts_group.specs.Either.{EitherFits, EitherSound, tag_of}
use Rattle.ts_group.specs.Standing.{StandsAfter}
use Rattle.ts_slot.specs.Views.{IsAfter}
use Rattle.ts_thread.specs.Tags.{GroupFits, GroupsFit}
use Rattle.ts_txn.specs.Net.{IsHanded, NetSeen}
use Rattle.ts_txn.specs.declared.retired.Noted.{Noted}
use Rattle.ts_txn.specs.declared.retired.Retired.{Retired}
use Rattle.ts_serve.specs.Closing.{AreNotedSessions, FitBehindFrom, FitsBehind}
use Rattle.ts_serve.specs.Knowledge.{KnownGroups, KnowsAll}
use Rattle.ts_serve.specs.Leftover.{AreMadeAlike, StayFit}
use Rattle.ts_serve.specs.Notes.{notes_of}
use Rattle.ts_serve.specs.Places.{PlaceFits, PlaceSound}
use Rattle.ts_serve.specs.Starting.{OthersStay}
use Rattle.ts_serve.specs.TakingOut.{MayHandOverAt}
use Rattle.ts_serve.specs.Tenants.{FitsTerms}
use Rattle.ts_serve.specs.declared.connection.Connection.{Connection}
use Rattle.ts_serve.specs.declared.connection.Connection.TheVariants.{Accepted, Free}
use Rattle.ts_serve.specs.declared.place.Place.{Place}
use Rattle.ts_serve.specs.declared.whose.Whose.{Whose}
use Rattle.ts_serve.proofs.Books.{noted_out, sessions_out}
use Rattle.ts_serve.proofs.Knowledge.{fits_young}
use Rattle.ts_serve.proofs.Notes.{is_within}

-- ---- lists side by side

module _ {A B : Type 0} (R : A → B → Type 0) where
  -- another element that goes with what stands beside its place may stand there
  zip_set : (xs : List A) (ys : List B) (k : ℕ) (x : A) (y : B) → AllZip R xs ys → get_elem? ys k ≡ some y
      → R x y → AllZip R (set xs k x) ys
  zip_set [] [] k x y zip at holds = tt
  zip_set [] (z ∷ ys) k x y zip at holds = absurd zip
  zip_set (w ∷ xs) [] k x y zip at holds = absurd zip
  zip_set (w ∷ xs) (z ∷ ys) zero x y zip at holds =
      (subst (R x) (sym (some-injective z y at)) holds, zip.1)
  zip_set (w ∷ xs) (z ∷ ys) (suc k) x y zip at holds = (zip.0, zip_set xs ys k x y zip.1 at holds)

  -- whatever stands beside its place goes with it
  zip_read : (xs : List A) (ys : List B) (k : ℕ) (x : A) (y : B) → AllZip R (set xs k x) ys
      → get_elem? ys k ≡ some y → R x y
  zip_read xs [] k x y zip at = absurd (some-ne-none y (sym at))
  zip_read [] (z ∷ ys) k x y zip at = absurd zip
  zip_read (w ∷ xs) (z ∷ ys) zero x y zip at = subst (R x) (some-injective z y at) zip.0
  zip_read (w ∷ xs) (z ∷ ys) (suc k) x y zip at = zip_read xs ys k x y zip.1 at

-- where lists show the same, what stands at a place shows what stands there in the other one
map_at : {A B : Type 0} (f : A → B) (xs ys : List A) (k : ℕ) (y : A) → map f ys ≡ map f xs
    → get_elem? ys k ≡ some y → (x : A) × (get_elem? xs k ≡ some x) × (f y ≡ f x)
map_at f xs [] k y same at = absurd (some-ne-none y (sym at))
map_at f [] (z ∷ ys) k y same at =
    let long : suc (length (map f ys)) ≡ 0 = ap length same in
    absurd (omega arith)
map_at f (x ∷ xs) (z ∷ ys) zero y same at =
    (x, refl, ap f (sym (some-injective z y at)) ∙ ap (λ l. get_or l 0 (f z)) same)
map_at f (x ∷ xs) (z ∷ ys) (suc k) y same at = map_at f xs ys k y (ap (drop 1) same) at

-- ---- what is handled

-- a group that fits one more tag goes on to fit it
stays_behind : {W Q R T U : Type 0} (Fits : T → W → Type 0) (Sound : W → State → List Named → Type 0)
    (only_asked is_first : T → Bool) (tags : List T) (groups left : List (Group W Q R T U)) (k : ℕ) (more : T)
    (g h : Group W Q R T U) → StayFit Fits Sound only_asked is_first groups left
    → GroupsFit Fits Sound only_asked is_first tags groups → get_elem? groups k ≡ some g
    → get_elem? left k ≡ some h → GroupFits Fits Sound only_asked is_first more g
    → GroupFits Fits Sound only_asked is_first more h
stays_behind Fits Sound only_asked is_first tags groups left k more g h stays fit at there fits =
    zip_read (λ t x. GroupFits Fits Sound only_asked is_first t x) tags left k more h
    (stays (set tags k more)
    (zip_set (λ t x. GroupFits Fits Sound only_asked is_first t x) tags groups k more g fit at fits)) there

-- ---- the close

module _ {W T A P V O : Type 0} (Fits : T → W → Type 0) (Keeps : A → T → Type 0)
    (Sound : W → State → List Named → Type 0) (Other : V → P → Type 0)
    (SoundOther : P → State → List Named → Type 0) (only_asked is_first : V → Bool)
    (behind : A → List (Noted O) → A) (terms : A) {C Q R U : Type 0} where
  -- The groups of a server that was closed, once what was left in them was handled: those that the first
  -- thread left for the clients in the row fit the terms of clients with their notes behind them.
  pub fit_again : (tags : List (EitherTag A V)) (known : KnownGroups W A P V Q R U) (turns : ℕ → ℕ)
      (row : List Connection) (net : NetSeen C O)
      (groups left : List (Group (Either (Place W) P) Q R (EitherTag A V) U))
      → ((k : ℕ) → k < length row → get_elem? tags k ≡ some (tag.One terms))
      → KnowsAll Fits Keeps Other behind terms known row net
      → ((k : ℕ) (g : Group (Either (Place W) P) Q R (EitherTag A V) U) → get_elem? groups k ≡ some g
      → IsAfter (StandsAfter (EitherFits (PlaceFits Fits Keeps) Other)) k (turns k) g known)
      → GroupsFit (EitherFits (PlaceFits Fits Keeps) Other) (EitherSound (PlaceSound Sound) SoundOther)
      (tag_of (λ terms. false) only_asked) (tag_of (λ terms. false) is_first) tags groups
      → StayFit (EitherFits (PlaceFits Fits Keeps) Other) (EitherSound (PlaceSound Sound) SoundOther)
      (tag_of (λ terms. false) only_asked) (tag_of (λ terms. false) is_first) groups left
      → AreMadeAlike groups left
      → FitBehindFrom Fits Keeps Sound Other SoundOther only_asked is_first behind terms 0 left row net
  fit_again tags known turns row net groups left places knows last fit stays alike j h at whose started made
      accepted is young =
      let here : 0 + j ≡ j = omega arith in
      let found : get_or row j Free ≡ Accepted whose started made =
      subst (λ (i : ℕ). get_or row i Free ≡ Accepted whose started made) here accepted in
      let was = map_at (λ (x : Group (Either (Place W) P) Q R (EitherTag A V) U). x.cx.log.base.made) groups
      left j h alike at in
      let place = places j (is_within row j whose started made found) in
      let beside = zip_at_place (λ t x. GroupFits (EitherFits (PlaceFits Fits Keeps) Other)
      (EitherSound (PlaceSound Sound) SoundOther) (tag_of (λ terms. false) only_asked)
      (tag_of (λ terms. false) is_first) t x) tags groups j (tag.One terms) fit place in
      let fits : FitsTerms Fits Keeps Sound Other SoundOther only_asked is_first terms was.0 =
      subst (FitsTerms Fits Keeps Sound Other SoundOther only_asked is_first terms)
      (place_once groups j beside.0 was.0 beside.1 was.1) beside.2 in
      stays_behind (EitherFits (PlaceFits Fits Keeps) Other) (EitherSound (PlaceSound Sound) SoundOther)
      (tag_of (λ terms. false) only_asked) (tag_of (λ terms. false) is_first) tags groups left j
      (tag.One (behind terms (notes_of whose.number net.noted))) was.0 h stays fit was.1 at
      (fits_young Fits Keeps Other behind terms Sound SoundOther only_asked is_first known j (turns j) made
      (notes_of whose.number net.noted) was.0 (knows j whose started made found) (last j was.0 was.1)
      (sym was.2 ∙ is) young fits)

  -- ---- place after place is cleared

  -- the next of the groups does so, and so do those that follow
  pub next_behind : (k : ℕ) (groups rest : List (Group (Either (Place W) P) Q R (EitherTag A V) U))
      (g : Group (Either (Place W) P) Q R (EitherTag A V) U) (row : List Connection) (net : NetSeen C O)
      → groups ≡ g ∷ rest
      → FitBehindFrom Fits Keeps Sound Other SoundOther only_asked is_first behind terms k groups row net
      → FitsBehind Fits Keeps Sound Other SoundOther only_asked is_first behind terms k g row net
      × FitBehindFrom Fits Keeps Sound Other SoundOther only_asked is_first behind terms (k + 1) rest row
      net
  next_behind k groups rest g row net is fit =
      let all : FitBehindFrom Fits Keeps Sound Other SoundOther only_asked is_first behind terms k (g ∷ rest)
      row net =
      subst (λ gs. FitBehindFrom Fits Keeps Sound Other SoundOther only_asked is_first behind terms k gs row
      net) is fit in (
        subst (λ (i : ℕ).
            FitsBehind Fits Keeps Sound Other SoundOther only_asked is_first behind terms i g row net)
            (omega arith) (all 0 g refl),
        λ j h at.
            subst (λ (i : ℕ).
            FitsBehind Fits Keeps Sound Other SoundOther only_asked is_first behind terms i h row net)
            (omega arith) (all (suc j) h at),
      )

  -- those that follow still do where the place before them was cleared, and nothing was noted
  pub behind_on : (k : ℕ) (rest : List (Group (Either (Place W) P) Q R (EitherTag A V) U))
      (row again : List Connection) (old new : NetSeen C O) → OthersStay k row again → new.noted ≡ old.noted
      → FitBehindFrom Fits Keeps Sound Other SoundOther only_asked is_first behind terms (k + 1) rest row
      old
      → FitBehindFrom Fits Keeps Sound Other SoundOther only_asked is_first behind terms (k + 1) rest again
      new
  behind_on k rest row again old new others noted fit j g at whose started made accepted is young =
      let apart : k + 1 + j ≢ k = λ same. absurd (omega arith) in
      subst (λ (l : List (Noted O)). FitsTerms Fits Keeps Sound Other SoundOther only_asked is_first
      (behind terms (notes_of whose.number l)) g) (sym noted)
      (fit j g at whose started made (sym (others (k + 1 + j) apart) ∙ accepted) is young)

-- what is left of the client of a place was handed over, behind its notes, and the place is free
pub session_over : {C O : Type 0} (Note : Noted O → Type 0) (Session : List (Noted O) → Retired C O → Type 0)
    (misdials : ℕ) (row : List Connection) (k : ℕ) (whose : Whose) (started : Bool) (made : ℕ)
    (retired : Retired C O) (old new : NetSeen C O) → k < length row
    → get_or row k Free ≡ Accepted whose started made → IsHanded true retired old new
    → retired.parts.number ≡ whose.number → is_some retired.parts.origin ≡ whose.has_origin
    → Session (notes_of whose.number old.noted) retired → AreNotedSessions Note Session misdials row old
    → AreNotedSessions Note Session misdials (set row k Free) new
session_over Note Session misdials row k whose started made retired old new below found handed number_is
    origin_is session was = record {
      notes = noted_out Note misdials row k whose started made retired old new below found handed origin_is
          was.notes;
      had = sessions_out Session retired old new handed
          (subst (λ (n : ℕ). Session (notes_of n old.noted) retired) (sym number_is) session) was.had;
    }

-- a handler that may be handed over stands in the group that was made with so many turns
pub made_over : {W P Q R T U : Type 0} (Sound : W → State → List Named → Type 0) (whose_of : W → Whose)
    (is_ended may_wait : W → Bool) (whose : Whose) (made : ℕ) (g : Group (Either (Place W) P) Q R T U)
    → MayHandOverAt Sound whose_of is_ended may_wait whose made g → g.cx.log.base.made ≡ made
made_over Sound whose_of is_ended may_wait whose made g (inl ended) = ended.1
made_over Sound whose_of is_ended may_wait whose made g (inr waits) = waits.1
