-- Who lives in a place of sessions: how a transaction comes there, and behind which others it stands.
use Rattle.std.proofs.Common.{◌≡◌, ◌∙◌, ℕ, ◌+◌, List, [], ◌∷◌, ◌++◌, Option, Some, None, Bool, true, false}
use Rattle.std.proofs.Common.{is_some, refl, sym, ap, ap₂, subst}
use Rattle.std.proofs.lemmas.List.{append-nil}
use Rattle.std.specs.Prelude.{IfSome}
use Rattle.ts_config.specs.declared.setup.Setup.{Setup}
use Rattle.ts_config.specs.declared.setup.TransformLine.{TransformLine}
use Rattle.ts_exchange.specs.Ends.{ends_of}
use Rattle.ts_exchange.specs.Left.{number_of}
use Rattle.ts_exchange.specs.declared.exchange.ExchangeSetting.{ExchangeSetting}
use Rattle.ts_exchange.specs.declared.exchange.Promise.{Promise}
use Rattle.ts_group.specs.declared.action.Named.{Named}
use Rattle.ts_group.specs.declared.either.Either.TheVariants.{One}
use Rattle.ts_group.specs.declared.either.EitherTag.TheVariants as tag
use Rattle.ts_history.proofs.Last.{next_stands, waits_behind}
use Rattle.ts_history.proofs.Standing.{stands_first}
use Rattle.ts_history.specs.Sessions.{IsNoteOf, StandsAt, request_of, response_of}
use Rattle.ts_layers.specs.Layers.{IsLayeredTag, MayBeLayered, TakesUploads, holds_origin}
use Rattle.ts_layers.specs.Links.{ClientEnd, OriginEnd, client_link, origin_link, origin_uploads}
use Rattle.ts_layers.specs.Sessions.{shown, span_link, spanned_if, spanned_link, spanned_origin}
use Rattle.ts_link.specs.declared.link.Link as link
use Rattle.ts_session.specs.Course.{before_client}
use Rattle.ts_session.specs.Session.{IsNew}
use Rattle.ts_session.specs.declared.course.Course.{Course}
use Rattle.ts_session.specs.declared.spanned.Spanned.{Spanned}
use Rattle.ts_transform.specs.declared.transform.Transform as transform
use Rattle.ts_txn.specs.Making.{ArePaired, IsNewLinkIf}
use Rattle.ts_txn.specs.Net.{IsNextOrigin}
use Rattle.ts_txn.specs.World.{IsSoundTxn, IsTxnOf}
use Rattle.ts_txn.specs.declared.retired.Noted.{Noted}
use Rattle.ts_txn.specs.declared.txn.Txn.{Txn}
use Rattle.ts_txn.specs.declared.txn.TxnTag.{TxnTag}
use Rattle.ts_upstream.specs.declared.upstream.Upstream as upstream
use Rattle.ts_serve.proofs.Ending.{made_number}
use Rattle.ts_serve.specs.Exchanges.{whose_of}
use Rattle.ts_serve.specs.SessionTerms.{ExchangeAt, GoesOnBehind, HasSetting, IsFreshSpan, KeepsExchange}
use Rattle.ts_serve.specs.SessionTerms.{LivesAs, LivesInSession}
use Rattle.ts_serve.specs.SessionTerms.{StandsBehindIf, behind_by, whose_at}
use Rattle.ts_serve.specs.declared.sessions.GoesOn.{GoesOn}
use Rattle.ts_serve.specs.declared.sessions.SessionTerms.{SessionTerms}

-- ---- a transaction is made

-- an origin is there where its link to a session's client is
pub spanned_some : {O : Type 0} (o : Option O) → is_some (spanned_if o) ≡ is_some o
spanned_some None = refl
spanned_some (Some o) = refl

-- of the same number, at the same place, with the same origin
pub same_at : {number again place here : ℕ} {has has' : Bool} → number ≡ again → place ≡ here → has ≡ has'
    → whose_at number place has ≡ whose_at again here has'
same_at number_is place_is origin_is = cc

-- there is one value of the terms that show this setup, this number and these transactions
pub one_terms : {O : Type 0} (a b : SessionTerms O) → a.setup.value ≡ b.setup.value
    → a.plugins_at ≡ b.plugins_at → a.behind.value ≡ b.behind.value → a ≡ b
one_terms {O = O} a b setup_is at_is behind_is =
    let of : Setup → ℕ → Option (List (Noted O)) → SessionTerms O = λ setup at notes. record {
      setup = record { marker = record {}; value = setup };
      plugins_at = at;
      behind = record { marker = record {}; value = notes };
    } in
    ap (λ setup. of setup a.plugins_at a.behind.value) setup_is
    ∙ ap (λ at. of b.setup.value at a.behind.value) at_is
    ∙ ap (λ notes. of b.setup.value b.plugins_at notes) behind_is

-- an origin that was reached for a client is one for its span
module _ {C O : Type 0} (origin : link.Ghosts O) (both : upstream.Ghosts O C) where
  spanned_new : (o : Option O) → IfSome o (IsNextOrigin origin both) → origin.tells ≡ true
      → IsNewLinkIf (spanned_link origin).look (spanned_if o)
  spanned_new None next tells = tt
  spanned_new (Some o) next tells =
      let new = next.unused tells in
      record { no_given = new.no_given; no_taken = new.no_taken; no_carried = new.no_carried }

-- it belongs to any span, and refuses no upload
spanned_paired : {C O : Type 0} (s : Course C) (o : Option (Spanned O))
    → ArePaired (spanned_origin {C = C} {O = O}).paired s o
spanned_paired s None = tt
spanned_paired s (Some o) = tt

spanned_takes : (C : Type 0) → {O : Type 0} (o : Option (Spanned O))
    → TakesUploads (spanned_origin {C = C} {O = O}).refuses o
spanned_takes C None = tt
spanned_takes C (Some o) = λ list wrong. wrong

-- layers may be put over the span of a client and its origin
pub fresh_ends : {C O : Type 0} (client : link.Ghosts C) (origin : link.Ghosts O) (both : upstream.Ghosts O C)
    (number : ℕ) (s : Course C) (o : Option O) → IsFreshSpan client number s
    → IfSome o (IsNextOrigin origin both)
    → MayBeLayered (span_link client) (spanned_link origin) spanned_origin s (spanned_if o)
fresh_ends {C = C} client origin both number s o fresh next = record {
  new = record {
    unused = λ tells. record {
      no_given = fresh.no_given tells;
      no_taken = fresh.no_taken tells;
      no_carried = refl;
    };
    unused_origin = spanned_new origin both o next;
    paired = spanned_paired s (spanned_if o);
  };
  takes = spanned_takes C (spanned_if o);
}

module _ {C O P : Type 0} (client : link.Ghosts C) (origin : link.Ghosts O)
    (stage : transform.Ghosts P TransformLine) where
  -- whose a transaction is that was made so
  pub made_whose : (setting : ExchangeSetting) (number : ℕ) (s : Course C) (o : Option O)
      (over : Option (Spanned O)) (promise : Promise) (place : ℕ)
      (made : TxnTag (ClientEnd (Course C)) (OriginEnd (Spanned O) P))
      (t : Txn (ClientEnd (Course C)) (OriginEnd (Spanned O) P) P) → over ≡ spanned_if o → place ≡ s.place
      → IsLayeredTag (ends_of setting number s over) false promise false made
      → IsTxnOf (client_link (span_link client)) (origin_link (spanned_link origin)) made t
      → holds_origin t ≡ is_some over
      → whose_of (record { value = t; place = place }) ≡ whose_at number s.place (is_some o)
  made_whose setting number s o over promise place made t is at tagged fits has =
      same_at (made_number (ends_of setting number s over) promise made (number_of t) tagged fits.number) at
      (has ∙ ap is_some is ∙ spanned_some o)

  -- a transaction that was made so may stand in a place of the setting's terms
  pub lives_made : (setting : ExchangeSetting) (number : ℕ) (s : Course C) (over : Option (Spanned O))
      (promise : Promise) (place : ℕ) (terms : SessionTerms O)
      (made : TxnTag (ClientEnd (Course C)) (OriginEnd (Spanned O) P))
      (t : Txn (ClientEnd (Course C)) (OriginEnd (Spanned O) P) P) → place ≡ s.place
      → IsFreshSpan client number s
      → HasSetting setting terms → StandsBehindIf client origin stage terms number s
      → IsLayeredTag (ends_of setting number s over) false promise false made
      → IsTxnOf (client_link (span_link client)) (origin_link (spanned_link origin)) made t
      → ((next : ℕ) (roles : List Named) → IsSoundTxn (client_link (span_link client))
      (origin_link (spanned_link origin))
      (origin_uploads (span_link client) (spanned_link origin) spanned_origin stage) stage t [] next roles)
      → LivesAs client origin stage terms (record { value = t; place = place })
  lives_made setting number s over promise place terms made t at fresh has behind tagged fits sound =
      let keeps : KeepsExchange client origin stage terms (record { value = made; place = s.place }) = record {
        ends = ends_of setting number s over;
        ends_are = record {
          setup_is = sym has.setup;
          plugins_are = sym has.plugins_at;
          named = fresh.named;
        };
        promise = promise;
        tag_is = tagged;
        place_is = refl;
        behind = behind;
      } in
      record {
        fits = (record { value = made; place = s.place }, keeps, record { value = fits; place = at });
        sound = λ at roles none.
            subst (λ ps. IsSoundTxn (client_link (span_link client)) (origin_link (spanned_link origin))
            (origin_uploads (span_link client) (spanned_link origin) spanned_origin stage) stage t ps at.next
            roles) (sym none) (sound at.next roles);
      }

  -- so it may as one of the two kinds that live there
  pub lives_one : (terms : SessionTerms O) (t : ExchangeAt C O P)
      → LivesAs client origin stage terms t → LivesInSession client origin stage terms (One t)
  lives_one terms t lives = record {
    fits = (tag.One lives.fits.0, lives.fits.1, lives.fits.2);
    sound = lives.sound;
  }

  -- ---- which transactions stand before it

  -- none is named
  pub behind_none : (terms : SessionTerms O) (number : ℕ) (s : Course C) → terms.behind.value ≡ None
      → StandsBehindIf client origin stage terms number s
  behind_none terms number s none tells =
      subst (λ b. IfSome b (λ notes. StandsAt client origin stage terms.setup.value terms.plugins_at number
      notes s)) (sym none) tt

  -- there is none of a client that came
  pub behind_first : (terms : SessionTerms O) (number : ℕ) (c : C) (s : Course C)
      → IsNew client.look client.tells c s
      → (client.tells ≡ true → (client.look c).given ≡ [])
      → (client.tells ≡ true → (client.look c).taken ≡ [])
      → StandsBehindIf client origin stage (behind_by terms []) number s
  behind_first terms number c s new given taken tells =
      let gave : (shown client s).before.0 ≡ (before_client client.look s).0 =
      new.gave ∙ ap (λ (l : List ℕ). (client.look c).before.0 ++ l) (given tells)
      ∙ append-nil (client.look c).before.0 ∙ ap (λ (b : List ℕ × List ℕ). b.0) (sym new.since) in
      let took : (shown client s).before.1 ≡ (before_client client.look s).1 =
      new.took ∙ ap (λ (l : List ℕ). (client.look c).before.1 ++ l) (taken tells)
      ∙ append-nil (client.look c).before.1 ∙ ap (λ (b : List ℕ × List ℕ). b.1) (sym new.since) in
      stands_first (IsNoteOf client origin stage terms.setup.value terms.plugins_at number)
      (λ note. note.place) (before_client client.look s) s.place (shown client s) new.place_is
      (ap₂ (λ (a b : List ℕ). (a, b)) gave took)

  -- the note of a transaction says what its own bytes were
  own_note : (setup : Setup) (plugins_at number : ℕ) (request response : List ℕ) (note : Noted O)
      → (is : IsNoteOf client origin stage setup plugins_at number request response note)
      → IsNoteOf client origin stage setup plugins_at number (request_of client is.parts)
      (response_of client is.parts) note
  own_note setup plugins_at number request response note is = record {
    parts = is.parts;
    done = is.done;
    went_on = is.went_on;
    rule = is.rule;
    request_is = refl;
    response_is = refl;
    of_client = is.of_client;
    number_is = is.number_is;
    place_is = is.place_is;
    origin_is = is.origin_is;
    cuts_are = is.cuts_are;
    end_is = is.end_is;
  }

  -- of a client that goes on there is one more
  pub behind_next : (terms : SessionTerms O) (notes : List (Noted O)) (noted : Noted O) (next : GoesOn C)
      → GoesOnBehind client origin stage (behind_by terms notes) noted next
      → StandsBehindIf client origin stage (behind_by terms (notes ++ noted ∷ [])) next.number next.span
  behind_next terms notes noted next on tells =
      subst (λ number. StandsAt client origin stage terms.setup.value terms.plugins_at number
      (notes ++ noted ∷ []) next.span) (sym on.number_is)
      (waits_behind client origin stage terms.setup.value terms.plugins_at noted.number (notes ++ noted ∷ [])
      on.was next.span on.same
      (next_stands client origin stage terms.setup.value terms.plugins_at noted.number notes noted
      on.is_note.parts on.was on.goes tells (on.behind tells)
      (own_note terms.setup.value terms.plugins_at noted.number on.request on.response noted on.is_note)
      on.is_note.place_is))

  -- the span that waited was not used, and its place is the next one
  pub fresh_next : (terms : SessionTerms O) (noted : Noted O) (next : GoesOn C)
      → GoesOnBehind client origin stage terms noted next → IsFreshSpan client next.number next.span
  fresh_next terms noted next on = record {
    named = on.named;
    no_given = λ tells. on.same.given tells ∙ (on.goes.behind tells).no_given;
    no_taken = λ tells. on.same.taken tells ∙ (on.goes.behind tells).no_taken;
  }

  pub place_next : (terms : SessionTerms O) (noted : Noted O) (next : GoesOn C)
      → GoesOnBehind client origin stage terms noted next → next.span.place ≡ noted.place + 1
  place_next terms noted next on =
      on.same.still.place ∙ on.goes.place_is ∙ ap (λ n. n + 1) (sym on.is_note.place_is)
