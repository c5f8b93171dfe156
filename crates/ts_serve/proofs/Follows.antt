-- How the first thread goes on with a client whose handler was taken out of its place.
use Rattle.std.proofs.Common.{◌≡◌, ◌∙◌, ℕ, ◌+◌, ◌<◌, inl, inr, List, ◌∷◌, Bool, true, false, Option}
use Rattle.std.proofs.Common.{Some, None, get_or, length, set, is_some, refl, sym, ap, subst}
use Rattle.std.specs.Prelude.{IfSome, IsErrAnd, Result, Ok, Err}
use Rattle.std.proofs.lemmas.List.{get_or-set_other, get_or-set_same, length-set}
use Rattle.ts_journal.specs.Machine.{HasLived}
use Rattle.ts_journal.specs.State.{State}
use Rattle.ts_journal.specs.declared.slotted.Slotted.{Ghosts}
use Rattle.ts_group.specs.declared.action.Named.{Named}
use Rattle.ts_group.specs.declared.either.Either.{Either}
use Rattle.ts_group.specs.declared.either.EitherTag.{EitherTag}
use Rattle.ts_group.specs.declared.group.Group.{Group}
use Rattle.ts_slot.specs.declared.seat.Turn.{Turn}
use Rattle.ts_slot.specs.declared.view.SeatView.{SeatView}
use Rattle.ts_slot.specs.Words.{IsTop}
use Rattle.ts_thread.specs.Entering.{FindsLived}
use Rattle.ts_txn.specs.Net.{IsHanded, NetSeen}
use Rattle.ts_txn.specs.declared.net.NetCounts.{NetCounts}
use Rattle.ts_txn.specs.declared.retired.Noted.{Noted}
use Rattle.ts_txn.specs.declared.retired.Retired.{Retired}
use Rattle.ts_serve.specs.Balance.{HasAll}
use Rattle.ts_serve.specs.Stepping.{ChangesAt, ComesNext, ComesTo, IsNextIn, IsOpened, IsStartedIn}
use Rattle.ts_serve.specs.Stepping.{KeepsGiven}
use Rattle.ts_serve.specs.Tenants.{HoldsHandler, IsPlaceOf, MayLive, MayLiveAt}
use Rattle.ts_serve.specs.Whose.{next_of, noted_of}
use Rattle.ts_lists.proofs.Places.{place_once}
use Rattle.ts_serve.specs.Balance.{row_after}
use Rattle.ts_serve.specs.declared.arrival.Arrival.{Arrival}
use Rattle.ts_serve.specs.declared.arrival.Arrival.TheVariants as arrival
use Rattle.ts_serve.specs.declared.connection.Connection.{Connection}
use Rattle.ts_serve.specs.declared.connection.Connection.TheVariants.{Accepted, Free}
use Rattle.ts_serve.specs.declared.place.Place.{Place}
use Rattle.ts_serve.specs.declared.whose.Whose.{Whose}
use Rattle.ts_serve.proofs.Balance.{all_anew, all_out, no_more_anew, no_more_out}
use Rattle.ts_serve.proofs.Books.{books_anew, books_out}
use Rattle.ts_serve.specs.Knowledge.{DoneAndSpent, IsServing, KnowsPlace, KnowsSessions, KnownGroups}
use Rattle.ts_serve.specs.Notes.{AreBooks, NotesAndDials, notes_of}
use Rattle.ts_serve.proofs.Knowledge.{knows_more, server_anew, server_in, server_on}
use Rattle.ts_serve.proofs.Knowledge.{server_out, server_same}
use Rattle.ts_thread.specs.Seats.{More}
use Rattle.ts_txn.specs.Net.{IsHandedNothing}
use Rattle.ts_serve.specs.Stepping.{Goes, IsFollowed, Proceeds, Waits, next_in}
use Rattle.ts_serve.specs.Whose.{first_of}
use Rattle.std.proofs.lemmas.Option.{IfSome_then}
use Rattle.std.proofs.Common.{[], ◌++◌}
use Rattle.ts_serve.specs.Tenants.{IsEmptyGroup}
use Rattle.ts_thread.specs.Seats.{KnowsTurn}
use Rattle.ts_journal.specs.Log.{Base}
use Rattle.ts_group.specs.declared.either.EitherTag.TheVariants as tag
use Rattle.ts_group.specs.Either.{EitherFits}
use Rattle.ts_serve.specs.Places.{PlaceFits}

-- ---- the turn

-- What a turn found that was opened has lived.
pub opened_lived : {W P Q R T U : Type 0}
    {d : Ghosts (Group (Either (Place W) P) Q R T U) T (Group (Either (Place W) P) Q R T U)}
    (v : SeatView T (Group (Either (Place W) P) Q R T U))
    (old new : Turn (Group (Either (Place W) P) Q R T U) T (Group (Either (Place W) P) Q R T U) d)
    → IsTop v old.group old.number old.found.value → old.found.value ≡ old.boxed.value
    → old.boxed.value.cx.log.state.turns < old.number → IsOpened old new → FindsLived v new
opened_lived v old new top found later opened =
    let same = opened.same in
    let is : old.boxed.value ≡ new.found.value = sym (ap (λ s. s.value) same.found ∙ found) in
    record {
      top = subst (λ k. IsTop v k new.number new.found.value) (sym same.group)
          (subst (λ n. IsTop v old.group n new.found.value) (sym same.number)
          (subst (λ s. IsTop v old.group old.number s.value) (sym same.found) top));
      lived = subst (λ g. HasLived g.cx.log.base.made g.cx.log.state) is opened.lived;
      later = subst (λ g. g.cx.log.state.turns < new.number) is
          (subst (λ n. old.boxed.value.cx.log.state.turns < n) (sym same.number) later);
    }

-- ---- the row

-- one place of a row is another one
pub changes_set : (row : List Connection) (k : ℕ) (c : Connection) → ChangesAt k row (set row k c)
changes_set row k c =
    record { count = length-set row k c; others = λ j other. get_or-set_other row k j c Free other }

pub changes_none : (row : List Connection) (k : ℕ) → ChangesAt k row row
changes_none row k = record { count = refl; others = λ j other. refl }

-- a handler of the same client comes next, at the same place in the session
pub comes_same : {W : Type 0} (whose_of : W → Whose) (k made : ℕ) (whose : Whose) (w : W) (row : List Connection)
    → whose_of w ≡ whose → ComesNext k made whose (whose_of w) row (set row k (Accepted whose false made))
comes_same whose_of k made whose w row is = record {
  succeeds = record {
    number = ap (λ (v : Whose). v.number) is;
    place = inl (ap (λ (v : Whose). v.place) is);
  };
  is = ap (λ v. set row k (Accepted v false made)) (sym is);
}

-- and the one of the next place
pub comes_further : {W O : Type 0} (whose_of : W → Whose) (k made : ℕ) (whose : Whose) (noted : Noted O)
    (has : Bool) (w : W) (row row' : List Connection) → noted_of noted ≡ whose → whose_of w ≡ next_of noted has
    → row' ≡ set row k (Accepted (next_of noted has) false made)
    → ComesNext k made whose (whose_of w) row row'
comes_further whose_of k made whose noted has w row row' of_whose is set_is = record {
  succeeds = record {
    number = ap (λ (v : Whose). v.number) is ∙ ap (λ (v : Whose). v.number) of_whose;
    place = inr (ap (λ (v : Whose). v.place) is ∙ ap (λ (v : Whose). v.place + 1) of_whose);
  };
  is = set_is ∙ ap (λ v. set row k (Accepted v false made)) (sym is);
}

-- ---- the books

module _ {C O : Type 0} (row : List Connection) (k : ℕ) (whose : Whose) (started : IsStartedIn k whose row) where
  -- what is left of the client was handed over, and the place is free
  module _ (retired : Retired C O) (tells : Bool) (old new : NetSeen C O) (handed : IsHanded tells retired old new)
    where
      pub all_retired : HasAll row old → HasAll (set row k Free) new
      all_retired = all_out tells row k whose true started.made retired old new started.below started.accepted handed

      pub given_retired : KeepsGiven row (set row k Free) old new
      given_retired = record {
        net = record {
          given = handed.given;
          ends = ap (λ (c : NetCounts). c.ends) handed.counts;
          faults = ap (λ (c : NetCounts). c.faults) handed.counts;
        };
        no_more = no_more_out row k whose true started.made old new started.below started.accepted handed.handed
            handed.given;
      }

      pub books_retired : (Done : Retired C O → Type 0) (Note : Noted O → Type 0) (misdials : ℕ) → tells ≡ true
          → retired.parts.number ≡ whose.number → is_some retired.parts.origin ≡ whose.has_origin → Done retired
          → AreBooks Done Note misdials row old → AreBooks Done Note misdials (set row k Free) new
      books_retired Done Note misdials telling number_is origin_is done =
          books_out Done Note misdials row k whose true started.made retired old new started.below started.accepted
          (subst (λ told. IsHanded told retired old new) telling handed) number_is origin_is done

  -- another handler of the client comes next

  pub all_waiting : (anew : ℕ) (net : NetSeen C O) → HasAll row net
      → HasAll (set row k (Accepted whose false anew)) net
  all_waiting anew net =
      all_anew row k whose true false started.made anew started.below started.accepted net

  pub given_waiting : (anew : ℕ) (net : NetSeen C O)
      → KeepsGiven row (set row k (Accepted whose false anew)) net net
  given_waiting anew net = record {
    net = record { given = refl; ends = refl; faults = refl };
    no_more = no_more_anew row k whose true false started.made anew started.below started.accepted net;
  }

  pub books_waiting : (Done : Retired C O → Type 0) (Note : Noted O → Type 0) (misdials anew : ℕ)
      (net : NetSeen C O) → AreBooks Done Note misdials row net
      → AreBooks Done Note misdials (set row k (Accepted whose false anew)) net
  books_waiting Done Note misdials anew net =
      books_anew Done Note misdials row k whose true false started.made anew net started.below started.accepted

-- nothing was done
pub given_none : {C O : Type 0} (row : List Connection) (net : NetSeen C O) → KeepsGiven row row net net
given_none row net =
    record { net = record { given = refl; ends = refl; faults = refl }; no_more = λ few. few }

-- ---- who comes next

-- whoever may live in a place of these terms may live there
pub lives_at : {W T A U : Type 0} (Fits : T → W → Type 0) (Keeps : A → T → Type 0)
    (Sound : W → State → List Named → Type 0) (tags : List (EitherTag A U)) (k : ℕ) (terms : A) (next : Option W)
    → IsPlaceOf tags k terms → IfSome next (MayLive Fits Keeps Sound terms)
    → IfSome next (MayLiveAt Fits Keeps Sound tags k)
lives_at Fits Keeps Sound tags k terms None place lives = tt
lives_at Fits Keeps Sound tags k terms (Some w) place lives =
    record { terms = terms; place = place; lives = lives }

-- whoever comes next stands in the place; where nobody comes the client went out of the row
pub comes_to : {W P Q R T U : Type 0} (whose_of : W → Whose) (k group turn made : ℕ) (whose : Whose)
    (row row' : List Connection) (known : List (ℕ × ℕ × Group (Either (Place W) P) Q R T U)) (next : Option W)
    → k < length row → group ≡ k → turn ≡ made → IsNextIn whose_of k made whose row row' next
    → IfSome next (λ w. HoldsHandler group turn w known) → ComesTo whose_of k whose row row' known
comes_to whose_of k group turn made whose row row' known None below here same is holds = inl is
comes_to whose_of k group turn made whose row row' known (Some w) below here same is holds = inr (record {
  stands = record {
    turn = turn;
    handler = w;
    holds = subst (λ n. HoldsHandler n turn w known) here holds;
    accepted = ap (λ r. get_or r k Free) is.is ∙ get_or-set_same row k (Accepted (whose_of w) false made) Free below
        ∙ ap (λ n. Accepted (whose_of w) false n) (sym same);
  };
  succeeds = is.succeeds;
})

-- ---- who was left

module _ {W T A P V : Type 0} (Fits : T → W → Type 0) (Keeps : A → T → Type 0) (Other : V → P → Type 0)
    {Q R U : Type 0} where
  -- the group of an empty place fits any terms
  pub empty_left : (terms : A) (known : KnownGroups W A P V Q R U) (k turn : ℕ)
      (g : Group (Either (Place W) P) Q R (EitherTag A V) U) → IsEmptyGroup turn g → KnowsTurn k turn g known
      → KnowsPlace Fits Keeps Other terms known k turn
  empty_left terms known k turn g empty knows = record {
    group = g;
    made = ap (λ (b : Base). b.made) empty.fresh.base;
    fits = subst (EitherFits (PlaceFits Fits Keeps) Other (tag.One terms)) (sym empty.empty) tt;
    known_is = knows;
  }

-- an answer that says that memory lacked has no next handler
pub no_next : {W E : Type 0} (r : Result (Option W) E) (e : E) → IsErrAnd r (λ x. x ≡ e) → next_in r ≡ None
no_next (Ok o) e is = absurd is
no_next (Err x) e is = refl

pub no_next_lives : {W E : Type 0} (r : Result (Option W) E) (e : E) (Lives : W → Type 0)
    → IsErrAnd r (λ x. x ≡ e) → IfSome (next_in r) Lives
no_next_lives (Ok o) e Lives is = absurd is
no_next_lives (Err x) e Lives is = tt

-- where nobody came, the row is what it was
pub nobody_row : {C O : Type 0} (k number made : ℕ) (answer : Arrival C O) (row : List Connection)
    → ((client : C) (origin : Option O) → answer ≡ arrival.Came client origin → ⊥)
    → row_after k number made answer row ≡ row
nobody_row k number made (arrival.Came client origin) row not = absurd (not client origin refl)
nobody_row k number made arrival.Nobody row not = refl
nobody_row k number made arrival.Closed row not = refl
nobody_row k number made arrival.Failed row not = refl

-- a place is of one kind of terms
pub same_terms : {A V : Type 0} (tags : List (EitherTag A V)) (k : ℕ) (t u : A) → IsPlaceOf tags k t
    → IsPlaceOf tags k u → t ≡ u
same_terms tags k t u one other =
    let same : ◌≡◌ {A = EitherTag _ _} (tag.One t) (tag.One u) = place_once tags k (tag.One t) (tag.One u) one other in
    cc

-- ---- the server

module _ {W T A P V C O : Type 0} (Fits : T → W → Type 0) (Keeps : A → T → Type 0) (Other : V → P → Type 0)
    (behind : A → List (Noted O) → A) (Done Spent : A → Retired C O → Type 0) (Note : A → Noted O → Type 0)
    {Q R U : Type 0} (terms : A) (misdials : ℕ) where
  -- the seat knows more
  pub serves_more : (known more : KnownGroups W A P V Q R U) (row : List Connection) (net : NetSeen C O)
      → More known more
      → IsServing Fits Keeps Other behind Done Spent Note terms misdials known row net
      → IsServing Fits Keeps Other behind Done Spent Note terms misdials more row net
  serves_more known more row net all was = record {
    books = was.books;
    sessions = record {
      knows = knows_more Fits Keeps Other behind terms known more row net all was.sessions.knows;
      had = was.sessions.had;
    };
  }

  -- a client came, whose first handler was left in its place, or the group of an empty place
  pub serves_came : (known more : KnownGroups W A P V Q R U) (row row' : List Connection) (k number made : ℕ)
      (has : Bool) (old new : NetSeen C O) → k < length row → number ≡ old.given + 1
      → row' ≡ set row k (Accepted (first_of number has) false made) → IsHandedNothing old new → More known more
      → KnowsPlace Fits Keeps Other (behind terms []) more k made
      → AreBooks (Done terms) (Note terms) misdials row' new
      → IsServing Fits Keeps Other behind Done Spent Note terms misdials known row old
      → IsServing Fits Keeps Other behind Done Spent Note terms misdials more row' new
  serves_came known more row row' k number made has old new below number_is is nothing all here books was =
      record {
        books = books;
        sessions = subst (λ (r : List Connection).
            KnowsSessions Fits Keeps Other behind terms (DoneAndSpent Done Spent) more r new) (sym is)
            (server_in Fits Keeps Other behind terms (DoneAndSpent Done Spent) (Note terms) misdials more row k
            number made has old new below number_is nothing was.books.notes here
            (serves_more known more row old all was).sessions);
      }

  -- nobody came
  pub serves_nobody : (known more : KnownGroups W A P V Q R U) (row row' : List Connection) (old new : NetSeen C O)
      → row' ≡ row → IsHandedNothing old new → More known more
      → AreBooks (Done terms) (Note terms) misdials row' new
      → IsServing Fits Keeps Other behind Done Spent Note terms misdials known row old
      → IsServing Fits Keeps Other behind Done Spent Note terms misdials more row' new
  serves_nobody known more row row' old new is nothing all books was = record {
    books = books;
    sessions = subst (λ (r : List Connection).
        KnowsSessions Fits Keeps Other behind terms (DoneAndSpent Done Spent) more r new) (sym is)
        (server_same Fits Keeps Other behind terms (DoneAndSpent Done Spent) more row old new nothing
        (serves_more known more row old all was).sessions);
  }

  module _ (Sound : W → State → List Named → Type 0) (tells : Bool) (telling : tells ≡ true)
      (Becomes Are : A → Type 0) (k made : ℕ) (whose : Whose) (row row' : List Connection)
      (old new : NetSeen C O) (next : Option W) (known : KnownGroups W A P V Q R U) (are : Are terms)
      (started : IsStartedIn k whose row)
      (becomes : Becomes (behind terms (notes_of whose.number old.noted)))
      (left : (t : A) → IfSome next (MayLive Fits Keeps Sound t) → KnowsPlace Fits Keeps Other t known k made)
      (books : AreBooks (Done terms) (Note terms) misdials row' new)
      (was : IsServing Fits Keeps Other behind Done Spent Note terms misdials known row old) where
    abbrev Sessions : List Connection → NetSeen C O → Type 0
    Sessions r net = KnowsSessions Fits Keeps Other behind terms (DoneAndSpent Done Spent) known r net

    serves_gone : Goes tells Becomes Are (MayLive Fits Keeps Sound) behind (DoneAndSpent Done Spent) k made whose
        row row' old new next → Sessions row' new
    serves_gone goes =
        let done : DoneAndSpent Done Spent (behind terms (notes_of goes.retired.parts.number old.noted))
        goes.retired =
        subst (λ n. DoneAndSpent Done Spent (behind terms (notes_of n old.noted)) goes.retired)
        (sym goes.number_is) (goes.done (behind terms (notes_of whose.number old.noted)) becomes) in
        subst (λ r. Sessions r new) (sym goes.row_is)
        (server_out Fits Keeps Other behind terms (DoneAndSpent Done Spent) (Done terms) misdials known row k whose
        true started.made goes.retired old new started.accepted
        (subst (λ b. IsHanded b goes.retired old new) telling goes.handed) was.books.balance done was.sessions)

    serves_waiting : Waits tells Becomes Are (MayLive Fits Keeps Sound) behind (DoneAndSpent Done Spent) k made
        whose row row' old new next → Sessions row' new
    serves_waiting waits =
        let notes = notes_of whose.number old.noted in
        let here = left (behind terms notes)
        (IfSome_then next waits.lives (λ w lives. lives (behind terms notes) becomes)) in
        subst (λ net. Sessions row' net) (sym waits.net_is)
        (subst (λ r. Sessions r old) (sym waits.row_is)
        (server_anew Fits Keeps Other behind terms (DoneAndSpent Done Spent) (Done terms) misdials known row k whose
        true started.made made old started.accepted was.books.balance here was.sessions))

    serves_further : Proceeds tells Becomes Are (MayLive Fits Keeps Sound) behind (DoneAndSpent Done Spent) k made
        whose row row' old new next → Sessions row' new
    serves_further goes =
        let number : goes.noted.number ≡ whose.number = ap (λ (v : Whose). v.number) goes.whose_is in
        let notes = notes_of goes.noted.number old.noted in
        let becomes_so = subst (λ n. Becomes (behind terms (notes_of n old.noted))) (sym number) becomes in
        let here = left (behind terms (notes ++ goes.noted ∷ []))
        (IfSome_then next goes.follows (λ w lives. lives terms notes are becomes_so)) in
        subst (λ r. Sessions r new) (sym goes.row_is)
        (server_on Fits Keeps Other behind terms (DoneAndSpent Done Spent) (Done terms) misdials known row k made
        goes.noted goes.reached old new (subst (λ v. IsStartedIn k v row) (sym goes.whose_is) started)
        (subst (λ b. NotesAndDials b goes.noted goes.reached old new) telling goes.dials) was.books.balance here
        was.sessions)

    -- whatever came of the client, the server is served on
    pub serves_followed : IsFollowed tells Becomes Are (MayLive Fits Keeps Sound) behind (DoneAndSpent Done Spent) k
        made whose row row' old new next
        → IsServing Fits Keeps Other behind Done Spent Note terms misdials known row' new
    serves_followed followed = record {
      books = books;
      sessions = elim followed [
        | inl nothing ↦ subst (λ net. Sessions row' net) (sym nothing.net_is)
            (subst (λ r. Sessions r old) (sym nothing.row_is) was.sessions)
        | inr (inl goes) ↦ serves_gone goes
        | inr (inr (inl waits)) ↦ serves_waiting waits
        | inr (inr (inr goes)) ↦ serves_further goes
      ];
    }

-- whoever comes next may live in a place of these terms
pub lives_followed : {W A C O : Type 0} (tells : Bool) (Becomes Are : A → Type 0) (Lives : A → W → Type 0)
    (behind : A → List (Noted O) → A) (Done : A → Retired C O → Type 0) (k made : ℕ) (whose : Whose)
    (row row' : List Connection) (old new : NetSeen C O) (next : Option W) (terms : A) → Are terms → Becomes terms
    → IsFollowed tells Becomes Are Lives behind Done k made whose row row' old new next
    → IfSome next (Lives terms)
lives_followed tells Becomes Are Lives behind Done k made whose row row' old new next terms are becomes followed =
    elim followed [
      | inl nothing ↦ subst (λ (o : Option _). IfSome o (Lives terms)) (sym nothing.nobody) tt
      | inr (inl goes) ↦ subst (λ (o : Option _). IfSome o (Lives terms)) (sym goes.nobody) tt
      | inr (inr (inl waits)) ↦ IfSome_then next waits.lives (λ w lives. lives terms becomes)
      | inr (inr (inr goes)) ↦ IfSome_then next goes.lives (λ w lives. lives terms are becomes)
    ]
