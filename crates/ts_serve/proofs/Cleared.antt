-- Place after place is cleared, and stays so; and a server is closed over its groups.
use Rattle.std.proofs.Common.{◌≡◌, ℕ, suc, ◌+◌, ◌-◌, ◌<◌, ◌≤◌, ◌⊎◌, inl, inr, List, [], ◌∷◌, ◌++◌, Bool}
use Rattle.std.proofs.Common.{All, Result, Ok, Err, ap, drop, get_or, length, take, refl, sym, subst, arith}
use Rattle.std.proofs.Common.{◌∙◌}
use Rattle.std.proofs.Common.{⊎_elim}
use Rattle.std.specs.Prelude.{◌≢◌, OnOk}
use Rattle.std.proofs.lemmas.Bool.{cases_lt}
use mathlib.Core.Option.{some, some-ne-none}
use lib.ListN.{get_elem?}
use Rattle.ts_lists.proofs.Fronts.{taken_table}
use Rattle.ts_lists.proofs.Places.{place_once}
use Rattle.ts_journal.specs.Log.{Log}
use Rattle.ts_journal.specs.State.{State}
use Rattle.ts_journal.proofs.Final.{IsKept}
use Rattle.ts_group.specs.declared.action.Named.{Named}
use Rattle.ts_group.specs.declared.either.Either.{Either}
use Rattle.ts_group.specs.declared.either.Either.TheVariants.{One}
use Rattle.ts_group.specs.declared.either.EitherTag.{EitherTag}
use Rattle.ts_group.specs.declared.either.EitherTag.TheVariants as tag
use Rattle.ts_group.specs.declared.group.Group.{Group}
use Rattle.ts_group.specs.Either.{EitherFits, EitherSound}
use Rattle.ts_serve.specs.declared.acceptor.TheConstants.{PLACES}
use Rattle.ts_serve.specs.declared.connection.Connection.{Connection}
use Rattle.ts_serve.specs.declared.connection.Connection.TheVariants.{Free, Accepted}
use Rattle.ts_serve.specs.declared.place.Place.{Place}
use Rattle.ts_serve.specs.declared.place.Place.TheVariants.{Tenant}
use Rattle.ts_serve.specs.declared.whose.Whose.{Whose}
use Rattle.ts_serve.specs.Starting.{OthersStay, RestStays}
use Rattle.ts_serve.proofs.LookedAt.{one_whose}
use Rattle.ts_serve.proofs.NowStarted.{rest_on}
use Rattle.ts_serve.specs.Leftover.{IsIdleOrWaits}
use Rattle.ts_serve.specs.Places.{PlaceFits, PlaceSound}
use Rattle.ts_serve.specs.TakingOut.{AreCleared, IsCleared, IsClosedOver, MayHandOver, StillRuns}
use Rattle.ts_serve.specs.Tenants.{FitsTerms, HasStoodIn}
use Rattle.ts_serve.proofs.Tenants.{ended_in, one_handler, stood_in}

-- what is left of a list stands in it from the k-th place on
abbrev pub StandFrom : {A : Type 0} → ℕ → List A → List A → Type 0
StandFrom k xs rest = (j : ℕ) → get_elem? rest j ≡ get_elem? xs (k + j)

pub stand_all : {A : Type 0} (xs rest : List A) → rest ≡ xs → StandFrom 0 xs rest
stand_all xs rest is j = subst (λ r. get_elem? r j ≡ get_elem? xs (0 + j)) (sym is) zero_more
  where
    zero_more : get_elem? xs j ≡ get_elem? xs (0 + j)
    zero_more = subst (λ i. get_elem? xs j ≡ get_elem? xs i) (omega arith) refl

pub stand_next : {A : Type 0} (k : ℕ) (xs rest next : List A) (x : A) → rest ≡ x ∷ next → StandFrom k xs rest
    → (get_elem? xs k ≡ some x) × StandFrom (k + 1) xs next
stand_next k xs rest next x is stand =
    let all : StandFrom k xs (x ∷ next) = subst (StandFrom k xs) is stand in (
      sym (subst (λ i. some x ≡ get_elem? xs i) (omega arith) (all 0)),
      λ j.
          let later : get_elem? next j ≡ get_elem? xs (k + suc j) = all (suc j) in
          subst (λ (i : ℕ). get_elem? next j ≡ get_elem? xs i) (omega arith) later,
    )

-- a list that is its own rest has nothing in it
pub nothing_left : {A : Type 0} (xs : List A) → xs ≡ drop 1 xs → xs ≡ []
nothing_left [] is = refl
nothing_left (x ∷ xs) is =
    let long : suc (length xs) ≡ length xs = ap length is in
    absurd (omega arith)

-- where nothing is left of it, all its places were passed
pub stand_none : {A : Type 0} (k j : ℕ) (xs rest : List A) (x : A) → rest ≡ [] → StandFrom k xs rest
    → get_elem? xs j ≡ some x → j < k
stand_none k j xs rest x none stand at =
    ⊎_elim (λ (less : j < k). less)
    (λ (not : k ≤ j).
    let there : get_elem? [] (j - k) ≡ get_elem? xs (k + (j - k)) =
    subst (λ r. get_elem? r (j - k) ≡ get_elem? xs (k + (j - k))) none (stand (j - k)) in
    let same : get_elem? [] (j - k) ≡ get_elem? xs j =
    subst (λ (i : ℕ). get_elem? [] (j - k) ≡ get_elem? xs i) (omega arith) there in
    absurd (some-ne-none x (sym at ∙ sym same)))
    (cases_lt j k)

module _ {W : Type 0} (Sound : W → State → List Named → Type 0) (whose_of : W → Whose)
    (is_ended may_wait : W → Bool) where
  -- whoever may be handed over is whose handler it was to be
  pub whose_over : {P : Type 0} (whose : Whose) (world : Either (Place W) P) (w : W)
      → world ≡ One (Tenant w) → MayHandOver Sound whose_of is_ended may_wait whose world → whose_of w ≡ whose
  whose_over whose world w is (inl ended) =
      ap whose_of (sym (one_handler ended.handler w (sym ended.lives ∙ is))) ∙ ended.whose_is
  whose_over whose world w is (inr waits) =
      ap whose_of (sym (one_handler waits.handler w (sym waits.lives ∙ is))) ∙ waits.whose_is

-- whoever may be handed over has stood in the place
pub over_in : {W T A P U Q R X : Type 0} (Fits : T → W → Type 0) (Keeps : A → T → Type 0)
    (Sound : W → State → List Named → Type 0) (Other : U → P → Type 0)
    (SoundOther : P → State → List Named → Type 0) (only_asked is_first : U → Bool) (whose_of : W → Whose)
    (is_ended may_wait : W → Bool) (whose : Whose) (terms : A)
    (g : Group (Either (Place W) P) Q R (EitherTag A U) X) (w : W) (journal : Log)
    → MayHandOver Sound whose_of is_ended may_wait whose g.world → g.world ≡ One (Tenant w)
    → journal ≡ g.cx.log → IsKept g.cx.log
    → FitsTerms Fits Keeps Sound Other SoundOther only_asked is_first terms g
    → HasStoodIn Fits Keeps Sound is_ended may_wait terms w journal
over_in Fits Keeps Sound Other SoundOther only_asked is_first whose_of is_ended may_wait whose terms g w
    journal (inl ended) is same kept fits =
    stood_in Fits Keeps Sound is_ended may_wait terms w journal
    (ended_in Fits Keeps Sound Other SoundOther only_asked is_first whose_of is_ended whose terms g w journal
    ended is same kept fits)
over_in Fits Keeps Sound Other SoundOther only_asked is_first whose_of is_ended may_wait whose terms g w
    journal (inr waits) is same kept fits =
    subst (HasStoodIn Fits Keeps Sound is_ended may_wait terms w) (sym same)
    (record {
      fits = subst (λ v. EitherFits (PlaceFits Fits Keeps) Other (tag.One terms) v) is fits.0;
      roles = g.cx.roles;
      sound = subst (λ v. EitherSound (PlaceSound Sound) SoundOther v g.cx.log.state g.cx.roles) is fits.1;
      stood = inr (ap may_wait (sym (one_handler waits.handler w (sym waits.lives ∙ is))) ∙ waits.waits);
    })

module _ {W P Q R T U : Type 0} (whose_of : W → Whose) (is_ended may_wait : W → Bool) where
  -- whoever was in the row for a place is not in it any more
  pub goes_out : (k : ℕ) (g : Group (Either (Place W) P) Q R T U) (row row' : List Connection)
      → get_or row' k Free ≡ Free → IsCleared whose_of is_ended may_wait k g row row'
  goes_out k g row row' out whose started made was = inl out

  -- or stays in it, where its handler runs still
  pub runs_on : (k : ℕ) (g : Group (Either (Place W) P) Q R T U) (row row' : List Connection) (whose : Whose)
      (started : Bool) (made : ℕ) → get_or row k Free ≡ Accepted whose started made
      → StillRuns whose_of is_ended may_wait whose g → IsCleared whose_of is_ended may_wait k g row row'
  runs_on k g row row' whose started made found runs other since anew was =
      let both : Accepted whose started made ≡ Accepted other since anew = sym found ∙ was in
      inr (subst (λ (v : Whose). StillRuns whose_of is_ended may_wait v g)
      (one_whose whose other started since made anew both) runs)

  -- the first k places are cleared, and the others are what they were
  pub record AreClearedTo (k : ℕ) (groups : List (Group (Either (Place W) P) Q R T U)) (old new : List Connection) :
      Type 0 where
    pub each : (j : ℕ) (g : Group (Either (Place W) P) Q R T U) → j < k → get_elem? groups j ≡ some g
        → IsCleared whose_of is_ended may_wait j g old new
    pub rest : RestStays k old new

  -- the same, unless memory lacked for one of them
  abbrev pub ClearsOn : {E : Type 0} → ℕ → List (Group (Either (Place W) P) Q R T U) → List Connection
      → List Connection → Result (Unit {0}) E → Type 0
  ClearsOn k groups old new (Ok u) = AreClearedTo k groups old new
  ClearsOn k groups old new (Err e) = RestStays k old new

  -- the others are what they were in any case
  pub rest_stays : {E : Type 0} (k : ℕ) (groups : List (Group (Either (Place W) P) Q R T U)) (old new : List Connection)
      (answer : Result (Unit {0}) E) → ClearsOn k groups old new answer → RestStays k old new
  rest_stays k groups old new (Ok u) on = on.rest
  rest_stays k groups old new (Err e) on = on

  -- the last place that was cleared is that of its group
  last_cleared : (k j : ℕ) (groups : List (Group (Either (Place W) P) Q R T U)) (old mid new : List Connection)
      (g h : Group (Either (Place W) P) Q R T U) → j ≡ k → get_elem? groups k ≡ some g
      → get_elem? groups j ≡ some h → RestStays k old mid
      → IsCleared whose_of is_ended may_wait k g mid new
      → IsCleared whose_of is_ended may_wait j h old new
  last_cleared k j groups old mid new g h here at there rest one =
      let found : get_elem? groups k ≡ some h = subst (λ (i : ℕ). get_elem? groups i ≡ some h) here there in
      let since : IsCleared whose_of is_ended may_wait k g old new =
      λ whose started made was. one whose started made (rest k (omega arith) ∙ was) in
      subst (λ (i : ℕ). IsCleared whose_of is_ended may_wait i h old new) (sym here)
      (subst (λ x. IsCleared whose_of is_ended may_wait k x old new)
      (place_once groups k g h at found) since)

  -- what a place came to, where its connection is what it was
  stays_cleared : (j : ℕ) (g : Group (Either (Place W) P) Q R T U) (mid new : List Connection)
      (whose : Whose) → get_or new j Free ≡ get_or mid j Free
      → (get_or mid j Free ≡ Free) ⊎ StillRuns whose_of is_ended may_wait whose g
      → (get_or new j Free ≡ Free) ⊎ StillRuns whose_of is_ended may_wait whose g
  stays_cleared j g mid new whose same (inl out) = inl (same ∙ out)
  stays_cleared j g mid new whose same (inr runs) = inr runs

  -- one place more
  pub one_more_cleared : (k : ℕ) (groups : List (Group (Either (Place W) P) Q R T U)) (old mid new : List Connection)
      (g : Group (Either (Place W) P) Q R T U) → get_elem? groups k ≡ some g → OthersStay k mid new
      → IsCleared whose_of is_ended may_wait k g mid new → AreClearedTo k groups old mid
      → AreClearedTo (k + 1) groups old new
  one_more_cleared k groups old mid new g at others one before = record {
    each = λ j h low there whose started made was.
        ⊎_elim
        (λ (less : j < k).
        let apart : j ≢ k = λ is. absurd (omega arith) in
        stays_cleared j h mid new whose (others j apart) (before.each j h less there whose started made was))
        (λ (not : k ≤ j).
        let here : j ≡ k = omega arith in
        last_cleared k j groups old mid new g h here at there before.rest one whose started made was)
        (cases_lt j k);
    rest = rest_on k old mid new before.rest others;
  }

  -- the same where memory did not lack for it, whatever it did before
  pub clears_more : {E : Type 0} (k : ℕ) (groups : List (Group (Either (Place W) P) Q R T U))
      (old mid new : List Connection) (g : Group (Either (Place W) P) Q R T U) (answer : Result (Unit {0}) E)
      → get_elem? groups k ≡ some g → OthersStay k mid new
      → IsCleared whose_of is_ended may_wait k g mid new → ClearsOn k groups old mid answer
      → ClearsOn (k + 1) groups old new answer
  clears_more k groups old mid new g (Ok u) at others one before =
      one_more_cleared k groups old mid new g at others one before
  clears_more k groups old mid new g (Err e) at others one before = rest_on k old mid new before others

  -- all places are cleared: those of the server, or those of all groups that there are
  pub all_cleared : {E : Type 0} (k : ℕ) (groups : List (Group (Either (Place W) P) Q R T U)) (old new : List Connection)
      (answer : Result (Unit {0}) E)
      → ((j : ℕ) (g : Group (Either (Place W) P) Q R T U) → j < PLACES → get_elem? groups j ≡ some g → j < k)
      → ClearsOn k groups old new answer
      → OnOk answer (AreCleared whose_of is_ended may_wait groups old new)
  all_cleared k groups old new (Ok u) behind on = λ j g low at. on.each j g (behind j g low at) at
  all_cleared k groups old new (Err e) behind on = tt

  -- A server was closed, whose groups were found so once all their events were handled.
  pub closed_over : {G E F : Type 0} (tags : List G) (count : ℕ)
      (left old found : List (Group (Either (Place W) P) Q R T U)) (row row' : List Connection)
      (handled : Result (Unit {0}) E) (cleared : Result (Unit {0}) F)
      → found ≡ take count (left ++ drop (length left) old) → length left ≡ count → length left ≡ length tags
      → handled ≡ Ok tt → OnOk handled (All (IsIdleOrWaits may_wait) left) → cleared ≡ Ok tt
      → OnOk cleared (AreCleared whose_of is_ended may_wait (take count (left ++ drop (length left) old))
      row row') → IsClosedOver whose_of is_ended may_wait tags found row row'
  closed_over tags count left old found row row' handled cleared same long many done idle all out =
      let there : IsClosedOver whose_of is_ended may_wait tags (take count (left ++ drop (length left) old))
      row row' = record {
        count = taken_table (λ gs. length gs ≡ length tags) count left old long many;
        idle = taken_table (λ gs. All (IsIdleOrWaits may_wait) gs) count left old long
            (subst (λ r. OnOk r (All (IsIdleOrWaits may_wait) left)) done idle);
        cleared = subst (λ r. OnOk r (AreCleared whose_of is_ended may_wait
            (take count (left ++ drop (length left) old)) row row')) all out;
      } in
      subst (λ gs. IsClosedOver whose_of is_ended may_wait tags gs row row') (sym same) there
