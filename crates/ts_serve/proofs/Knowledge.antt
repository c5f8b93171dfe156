-- How the first thread goes on to know the handlers in the places, and the sessions of its server: as clients
-- come, go on with their next transactions and are handed over, step after step.
use Rattle.std.proofs.Common.{◌≡◌, ◌∙◌, ℕ, ◌+◌, ◌<◌, ◌≤◌, inl, inr, List, [], ◌∷◌, ◌++◌, Bool, true, false}
use Rattle.std.proofs.Common.{length, get_or, set, replicate, refl, sym, ap, subst, arith}
use Rattle.std.specs.Prelude.{◌≢◌}
use Rattle.std.proofs.lemmas.Bool.Decides.{eqb_tells}
use Rattle.std.proofs.lemmas.List.{get_or-set_other, get_or-set_same}
use Rattle.ts_journal.specs.Log.{Base}
use Rattle.ts_journal.specs.Machine.{HasLived}
use Rattle.ts_journal.specs.State.{State}
use Rattle.ts_group.specs.declared.action.Named.{Named}
use Rattle.ts_group.specs.declared.either.Either.{Either}
use Rattle.ts_group.specs.declared.either.EitherTag.{EitherTag}
use Rattle.ts_group.specs.declared.either.EitherTag.TheVariants as tag
use Rattle.ts_group.specs.declared.group.Group.{Group}
use Rattle.ts_group.specs.Either.{EitherFits}
use Rattle.ts_group.specs.Standing.{StandsAfter}
use Rattle.ts_slot.specs.Limits.{last_turn}
use Rattle.ts_slot.specs.Views.{IsAfter}
use Rattle.ts_thread.specs.Entering.{FindsAgain}
use Rattle.ts_thread.specs.Seats.{More}
use Rattle.ts_txn.specs.Net.{IsFreshNet, IsHanded, IsHandedNothing, NetSeen}
use Rattle.ts_txn.specs.declared.retired.Noted.{Noted}
use Rattle.ts_txn.specs.declared.retired.Retired.{Retired}
use Rattle.ts_thread.proofs.Again.{finds_again}
use Rattle.ts_serve.specs.Balance.{IsBalanced, IsSameClient, IsSameRow}
use Rattle.ts_serve.specs.Knowledge.{KnownGroups, KnowsAll, KnowsHandler, KnowsSessions}
use Rattle.ts_serve.specs.Notes.{AreNoted, NotesAndDials, OthersNotes, notes_of}
use Rattle.ts_serve.specs.Places.{PlaceFits}
use Rattle.ts_serve.specs.Stepping.{IsStartedIn}
use Rattle.ts_serve.specs.Tenants.{FitsTerms, HoldsHandler, MayLive}
use Rattle.ts_serve.specs.Whose.{first_of, next_of, noted_of}
use Rattle.ts_serve.specs.declared.connection.Connection.{Connection}
use Rattle.ts_serve.specs.declared.connection.Connection.TheVariants.{Accepted, Free}
use Rattle.ts_serve.specs.declared.place.Place.{Place}
use Rattle.ts_serve.specs.declared.whose.Whose.{Whose}
use Rattle.ts_serve.proofs.Books.{first_notes, notes_here, notes_there, sessions_fresh, sessions_on}
use Rattle.ts_serve.proofs.Books.{sessions_out, sessions_same}
use Rattle.ts_serve.proofs.Lived.{lived_turns}
use Rattle.ts_serve.proofs.Notes.{all_free, is_free, is_within, not_twice, one_accepted, was_client}

-- whoever is found in a turn was made before the last one that a group can have
pub found_young : {W Q R T U : Type 0} (g : Group W Q R T U) (turn : ℕ)
    → HasLived g.cx.log.base.made g.cx.log.state → g.cx.log.state.turns < turn → turn ≤ last_turn
    → g.cx.log.base.made < last_turn
found_young g turn lived later bounded =
    let made = lived_turns g.cx.log.base.made g.cx.log.state lived in omega arith

-- what fits the terms of a place fits other ones, if its world does
pub fits_other : {W T A P V Q R X : Type 0} (Fits : T → W → Type 0) (Keeps : A → T → Type 0)
    (Sound : W → State → List Named → Type 0) (Other : V → P → Type 0)
    (SoundOther : P → State → List Named → Type 0) (only_asked is_first : V → Bool) (terms other : A)
    (g : Group (Either (Place W) P) Q R (EitherTag A V) X)
    → FitsTerms Fits Keeps Sound Other SoundOther only_asked is_first terms g
    → EitherFits (PlaceFits Fits Keeps) Other (tag.One other) g.world
    → FitsTerms Fits Keeps Sound Other SoundOther only_asked is_first other g
fits_other Fits Keeps Sound Other SoundOther only_asked is_first terms other g fits world =
    (world, fits.1, fits.2, fits.3)

module _ {W T A P V O : Type 0} (Fits : T → W → Type 0) (Keeps : A → T → Type 0) (Other : V → P → Type 0)
    (behind : A → List (Noted O) → A) (terms : A) {Q R U : Type 0} where
  -- ---- one handler

  handler_more : (known more : KnownGroups W A P V Q R U) (k turn : ℕ) (notes : List (Noted O))
      → More known more
      → KnowsHandler Fits Keeps Other behind terms known k turn notes
      → KnowsHandler Fits Keeps Other behind terms more k turn notes
  handler_more known more k turn notes all knows = record {
    group = knows.group;
    made = knows.made;
    fits = knows.fits;
    known_is = λ young. all.stays (k, turn, knows.group) (knows.known_is young);
  }

  -- a handler that was let into a place stands there, under the terms of whose client it is
  pub handler_left : (Sound : W → State → List Named → Type 0) (known : KnownGroups W A P V Q R U)
      (k turn : ℕ)
      (notes : List (Noted O)) (w : W) → HoldsHandler k turn w known
      → MayLive Fits Keeps Sound (behind terms notes) w
      → KnowsHandler Fits Keeps Other behind terms known k turn notes
  handler_left Sound known k turn notes w holds lives = record {
    group = holds.group;
    made = ap (λ (b : Base). b.made) holds.fresh.base;
    fits = subst (EitherFits (PlaceFits Fits Keeps) Other (tag.One (behind terms notes))) (sym holds.lives)
        lives.fits;
    known_is = holds.known_is;
  }

  -- whoever is found there is that handler, if it was made in that turn: it lives under the same terms
  pub knows_here : (known : KnownGroups W A P V Q R U) (k turn : ℕ) (notes : List (Noted O))
      (g : Group (Either (Place W) P) Q R (EitherTag A V) U)
      → KnowsHandler Fits Keeps Other behind terms known k turn notes
      → FindsAgain (EitherFits (PlaceFits Fits Keeps) Other) k known g → g.cx.log.base.made ≡ turn
      → turn < last_turn → EitherFits (PlaceFits Fits Keeps) Other (tag.One (behind terms notes)) g.world
  knows_here known k turn notes g knows again made young =
      again.same turn knows.group (knows.known_is young) (made ∙ sym knows.made)
      (tag.One (behind terms notes))
      knows.fits

  -- so its group fits these terms, as it fits those of its place
  pub fits_young : (Sound : W → State → List Named → Type 0) (SoundOther : P → State → List Named → Type 0)
      (only_asked is_first : V → Bool) (known : KnownGroups W A P V Q R U) (k turn made : ℕ)
      (notes : List (Noted O)) (g : Group (Either (Place W) P) Q R (EitherTag A V) U)
      → KnowsHandler Fits Keeps Other behind terms known k made notes
      → IsAfter (StandsAfter (EitherFits (PlaceFits Fits Keeps) Other)) k turn g known
      → g.cx.log.base.made ≡ made → made < last_turn
      → FitsTerms Fits Keeps Sound Other SoundOther only_asked is_first terms g
      → FitsTerms Fits Keeps Sound Other SoundOther only_asked is_first (behind terms notes) g
  fits_young Sound SoundOther only_asked is_first known k turn made notes g knows after is young fits =
      fits_other Fits Keeps Sound Other SoundOther only_asked is_first terms (behind terms notes) g fits
      (knows_here known k made notes g knows
      (finds_again (EitherFits (PlaceFits Fits Keeps) Other) k turn known g after) is young)

  -- the same where it was found in a turn, which tells that it was made before the last one
  pub fits_behind : (Sound : W → State → List Named → Type 0) (SoundOther : P → State → List Named → Type 0)
      (only_asked is_first : V → Bool) (known : KnownGroups W A P V Q R U) (k turn made : ℕ)
      (notes : List (Noted O)) (g : Group (Either (Place W) P) Q R (EitherTag A V) U)
      → KnowsHandler Fits Keeps Other behind terms known k made notes
      → IsAfter (StandsAfter (EitherFits (PlaceFits Fits Keeps) Other)) k turn g known
      → g.cx.log.base.made ≡ made → HasLived g.cx.log.base.made g.cx.log.state
      → g.cx.log.state.turns < turn → turn ≤ last_turn
      → FitsTerms Fits Keeps Sound Other SoundOther only_asked is_first terms g
      → FitsTerms Fits Keeps Sound Other SoundOther only_asked is_first (behind terms notes) g
  fits_behind Sound SoundOther only_asked is_first known k turn made notes g knows after is lived later
      bounded fits =
      fits_young Sound SoundOther only_asked is_first known k turn made notes g knows after is
      (subst (λ n. n < last_turn) is (found_young g turn lived later bounded)) fits

  module _ {C : Type 0} where
    -- ---- each handler

    pub knows_fresh : (known : KnownGroups W A P V Q R U) (places : ℕ) (net : NetSeen C O)
        → KnowsAll Fits Keeps Other behind terms known (replicate places Free) net
    knows_fresh known places net k whose started made at =
        absurd (is_free whose started made (sym (all_free places k) ∙ at))

    -- the handler of a connection is that of one that is the same
    handler_of : (known : KnownGroups W A P V Q R U) (k j : ℕ) (whose other : Whose) (s t : Bool) (m n : ℕ)
        (net : NetSeen C O) → Accepted whose s m ≡ Accepted other t n → j ≡ k
        → KnowsHandler Fits Keeps Other behind terms known k m (notes_of whose.number net.noted)
        → KnowsHandler Fits Keeps Other behind terms known j n (notes_of other.number net.noted)
    handler_of known k j whose other s t m n net is same here =
        let one = one_accepted whose other s t m n is in
        subst (λ i. KnowsHandler Fits Keeps Other behind terms known i n (notes_of other.number net.noted))
        (sym same)
        (subst (λ i. KnowsHandler Fits Keeps Other behind terms known k i (notes_of other.number net.noted))
        one.1
        (subst (λ (w : Whose).
        KnowsHandler Fits Keeps Other behind terms known k m (notes_of w.number net.noted))
        one.0 here))

    -- the seat knows more
    pub knows_more : (known more : KnownGroups W A P V Q R U) (row : List Connection) (net : NetSeen C O)
        → More known more → KnowsAll Fits Keeps Other behind terms known row net
        → KnowsAll Fits Keeps Other behind terms more row net
    knows_more known more row net all knows k whose started made at =
        handler_more known more k made (notes_of whose.number net.noted) all (knows k whose started made at)

    -- handlers were started
    pub knows_row : (known : KnownGroups W A P V Q R U) (row again : List Connection) (net : NetSeen C O)
        → IsSameRow row again → KnowsAll Fits Keeps Other behind terms known row net
        → KnowsAll Fits Keeps Other behind terms known again net
    knows_row known row again net alike knows k whose started made at =
        let before = was_client (get_or row k Free) whose started made
        (subst (IsSameClient (get_or row k Free)) at (alike.clients k)) in
        knows k whose before.0 made before.1

    -- the net was noted nothing
    pub knows_same : (known : KnownGroups W A P V Q R U) (row : List Connection) (old new : NetSeen C O)
        → new.noted ≡ old.noted → KnowsAll Fits Keeps Other behind terms known row old
        → KnowsAll Fits Keeps Other behind terms known row new
    knows_same known row old new noted knows k whose started made at =
        subst (λ (l : List (Noted O)).
        KnowsHandler Fits Keeps Other behind terms known k made (notes_of whose.number l)) (sym noted)
        (knows k whose started made at)

    module _ (Over : Retired C O → Type 0) (misdials : ℕ) (known : KnownGroups W A P V Q R U)
        (row : List Connection) (k : ℕ) (whose : Whose) (started : Bool) (made : ℕ) (old new : NetSeen C O)
        (found : get_or row k Free ≡ Accepted whose started made) (others : OthersNotes whose.number old new)
        (balance : IsBalanced Over misdials row old) where
      below : k < length row
      below = is_within row k whose started made found

      -- the handler of another place is known, since it is of another client
      knows_there : (j : ℕ) (other : Whose) (s : Bool) (m : ℕ) → j ≢ k
          → get_or row j Free ≡ Accepted other s m
          → KnowsAll Fits Keeps Other behind terms known row old
          → KnowsHandler Fits Keeps Other behind terms known j m (notes_of other.number new.noted)
      knows_there j other s m apart at knows =
          let same : notes_of other.number new.noted ≡ notes_of other.number old.noted =
          others other.number (not_twice Over misdials row old balance j k other whose s started m made apart
          at found)
          in
          subst (KnowsHandler Fits Keeps Other behind terms known j m) (sym same) (knows j other s m at)

      -- the place of a client is free
      pub knows_out : KnowsAll Fits Keeps Other behind terms known row old
          → KnowsAll Fits Keeps Other behind terms known (set row k Free) new
      knows_out knows j other s m at = elim (eqb_tells j k) [
        | inl same ↦
            absurd (is_free other s m
            (sym (get_or-set_same row k Free Free below)
            ∙ (ap (λ i. get_or (set row k Free) i Free) (sym same.1) ∙ at)))
        | inr apart ↦
            knows_there j other s m apart.1 (sym (get_or-set_other row k j Free Free apart.1) ∙ at) knows
      ]

      -- another handler of the client was left in its place
      pub knows_next : (next : Whose) (anew : ℕ)
          → KnowsHandler Fits Keeps Other behind terms known k anew (notes_of next.number new.noted)
          → KnowsAll Fits Keeps Other behind terms known row old
          → KnowsAll Fits Keeps Other behind terms known (set row k (Accepted next false anew)) new
      knows_next next anew here knows j other s m at = elim (eqb_tells j k) [
        | inl same ↦
            let is : Accepted next false anew ≡ Accepted other s m =
            sym (get_or-set_same row k (Accepted next false anew) Free below)
            ∙ (ap (λ i. get_or (set row k (Accepted next false anew)) i Free) (sym same.1) ∙ at) in
            handler_of known k j next other false s anew m new is same.1 here
        | inr apart ↦
            knows_there j other s m apart.1
            (sym (get_or-set_other row k j (Accepted next false anew) Free apart.1) ∙ at) knows
      ]

    -- a client came, whose first handler was left in its place, which was free
    pub knows_in : (known : KnownGroups W A P V Q R U) (row : List Connection) (k : ℕ) (first : Whose)
        (made : ℕ)
        (old new : NetSeen C O) → k < length row → new.noted ≡ old.noted
        → KnowsHandler Fits Keeps Other behind terms known k made (notes_of first.number new.noted)
        → KnowsAll Fits Keeps Other behind terms known row old
        → KnowsAll Fits Keeps Other behind terms known (set row k (Accepted first false made)) new
    knows_in known row k first made old new below noted here knows j other s m at = elim (eqb_tells j k) [
      | inl same ↦
          let is : Accepted first false made ≡ Accepted other s m =
          sym (get_or-set_same row k (Accepted first false made) Free below)
          ∙ (ap (λ i. get_or (set row k (Accepted first false made)) i Free) (sym same.1) ∙ at) in
          handler_of known k j first other false s made m new is same.1 here
      | inr apart ↦
          knows_same known row old new noted knows j other s m
          (sym (get_or-set_other row k j (Accepted first false made) Free apart.1) ∙ at)
    ]

    -- ---- the sessions

    module _ (Done : A → Retired C O → Type 0) where
      pub server_fresh : (known : KnownGroups W A P V Q R U) (places : ℕ) (net : NetSeen C O) → IsFreshNet net
          → KnowsSessions Fits Keeps Other behind terms Done known (replicate places Free) net
      server_fresh known places net fresh = record {
        knows = knows_fresh known places net;
        had = sessions_fresh (λ notes. Done (behind terms notes)) net fresh;
      }

      -- the seat knows more, and handlers were started
      pub server_goes : (known more : KnownGroups W A P V Q R U) (row again : List Connection)
          (net : NetSeen C O)
          → More known more → IsSameRow row again
          → KnowsSessions Fits Keeps Other behind terms Done known row net
          → KnowsSessions Fits Keeps Other behind terms Done more again net
      server_goes known more row again net all alike was = record {
        knows = knows_row more row again net alike (knows_more known more row net all was.knows);
        had = was.had;
      }

      -- nobody came
      pub server_same : (known : KnownGroups W A P V Q R U) (row : List Connection) (old new : NetSeen C O)
          → IsHandedNothing old new → KnowsSessions Fits Keeps Other behind terms Done known row old
          → KnowsSessions Fits Keeps Other behind terms Done known row new
      server_same known row old new nothing was = record {
        knows = knows_same known row old new nothing.noted was.knows;
        had = sessions_same (λ notes. Done (behind terms notes)) old new nothing was.had;
      }

      -- a client came, whose first handler was left in its place
      pub server_in : (Note : Noted O → Type 0) (misdials : ℕ) (known : KnownGroups W A P V Q R U)
          (row : List Connection) (k number made : ℕ) (has_origin : Bool) (old new : NetSeen C O)
          → k < length row
          → number ≡ old.given + 1 → IsHandedNothing old new → AreNoted Note misdials row old
          → KnowsHandler Fits Keeps Other behind terms known k made []
          → KnowsSessions Fits Keeps Other behind terms Done known row old
          → KnowsSessions Fits Keeps Other behind terms Done known
          (set row k (Accepted (first_of number has_origin) false made)) new
      server_in Note misdials known row k number made has_origin old new below number_is nothing noted here
          was =
          let none : notes_of number new.noted ≡ [] =
          ap (notes_of number) nothing.noted ∙ first_notes Note misdials row old noted number number_is in
          record {
            knows = knows_in known row k (first_of number has_origin) made old new below nothing.noted
                (subst (KnowsHandler Fits Keeps Other behind terms known k made) (sym none) here) was.knows;
            had = sessions_same (λ notes. Done (behind terms notes)) old new nothing was.had;
          }

      module _ (Over : Retired C O → Type 0) (misdials : ℕ) (known : KnownGroups W A P V Q R U)
          (row : List Connection) (k : ℕ) where
        -- another handler of the same client was left in its place
        pub server_anew : (whose : Whose) (started : Bool) (made anew : ℕ) (net : NetSeen C O)
            → get_or row k Free ≡ Accepted whose started made → IsBalanced Over misdials row net
            → KnowsHandler Fits Keeps Other behind terms known k anew (notes_of whose.number net.noted)
            → KnowsSessions Fits Keeps Other behind terms Done known row net
            → KnowsSessions Fits Keeps Other behind terms Done known
            (set row k (Accepted whose false anew)) net
        server_anew whose started made anew net found balance here was = record {
          knows = knows_next Over misdials known row k whose started made net net found
              (λ x other. refl) balance
              whose anew here was.knows;
          had = was.had;
        }

        -- a transaction was noted of the client of a place, whose next handler was left there
        pub server_on : (anew : ℕ) (note : Noted O) (has : Bool) (old new : NetSeen C O)
            → IsStartedIn k (noted_of note) row → NotesAndDials true note has old new
            → IsBalanced Over misdials row old
            → KnowsHandler Fits Keeps Other behind terms known k anew
            (notes_of note.number old.noted ++ note ∷ [])
            → KnowsSessions Fits Keeps Other behind terms Done known row old
            → KnowsSessions Fits Keeps Other behind terms Done known
            (set row k (Accepted (next_of note has) false anew)) new
        server_on anew note has old new started goes balance here was = record {
          knows = knows_next Over misdials known row k (noted_of note) true started.made old new
              started.accepted (notes_there note has old new goes) balance (next_of note has) anew
              (subst (KnowsHandler Fits Keeps Other behind terms known k anew)
              (sym (notes_here note has old new goes)) here) was.knows;
          had = sessions_on (λ notes. Done (behind terms notes)) Over misdials row k note has old new started
              goes
              balance was.had;
        }

        -- what is left of the client of a place was handed over, and the place is free
        pub server_out : (whose : Whose) (started : Bool) (made : ℕ) (retired : Retired C O)
            (old new : NetSeen C O) → get_or row k Free ≡ Accepted whose started made
            → IsHanded true retired old new → IsBalanced Over misdials row old
            → Done (behind terms (notes_of retired.parts.number old.noted)) retired
            → KnowsSessions Fits Keeps Other behind terms Done known row old
            → KnowsSessions Fits Keeps Other behind terms Done known (set row k Free) new
        server_out whose started made retired old new found handed balance done was = record {
          knows = knows_out Over misdials known row k whose started made old new found
              (λ x other. ap (notes_of x) handed.noted) balance was.knows;
          had = sessions_out (λ notes. Done (behind terms notes)) retired old new handed done was.had;
        }
