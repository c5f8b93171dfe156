-- What the places of a server of sessions promise of whoever lives in them: a transaction, or a client that
-- waits for its next request behind one.
use Rattle.std.specs.Prelude.{◌≡◌, ◌<◌, ⊤, ℕ, List, [], length, Bool, true, Option, Some, None, IfSome}
use Rattle.std.specs.Prelude.{is_some, false}
use Rattle.std.specs.Arc.{arc_value}
use Rattle.ts_config.specs.declared.setup.TransformLine.{TransformLine}
use Rattle.ts_exchange.specs.Ends.{Ends}
use Rattle.ts_exchange.specs.Left.{has_ended}
use Rattle.ts_exchange.specs.declared.exchange.ExchangeSetting.{ExchangeSetting}
use Rattle.ts_exchange.specs.declared.exchange.Promise.{Promise}
use Rattle.ts_group.specs.declared.action.Named.{Named}
use Rattle.ts_group.specs.declared.either.EitherTag.{EitherTag}
use Rattle.ts_group.specs.declared.either.EitherTag.TheVariants as tag
use Rattle.ts_group.specs.declared.either.Either.{Either}
use Rattle.ts_group.specs.Either.{EitherFits, EitherSound, either_of}
use Rattle.ts_history.specs.Done.{AreEndsAt}
use Rattle.ts_history.specs.Sessions.{IsDoneInSession, IsLastOf, IsNote, IsNoteOf, IsSessionOf, IsSpent}
use Rattle.ts_history.specs.Sessions.{StandsAt}
use Rattle.ts_journal.specs.Final.{IsFinal}
use Rattle.ts_journal.specs.Log.{Log}
use Rattle.ts_journal.specs.State.{State}
use Rattle.ts_layers.specs.Layers.{IsLayeredTag}
use Rattle.ts_layers.specs.Links.{ClientEnd, OriginEnd, client_link, origin_link, origin_uploads}
use Rattle.ts_layers.specs.Sessions.{IsNextSpan, MayGoOn, shown, span_link, spanned_link, spanned_origin}
use Rattle.ts_layers.specs.Sessions.{with_client, without_client}
use Rattle.ts_link.specs.declared.link.Link as link
use Rattle.ts_session.specs.declared.course.Course.{Course}
use Rattle.ts_session.specs.declared.spanned.Spanned.{Spanned}
use Rattle.ts_transform.specs.declared.transform.Transform as transform
use Rattle.ts_txn.specs.World.{IsSoundTxn, IsTxnOf}
use Rattle.ts_txn.specs.declared.making.TxnParts.{TxnParts}
use Rattle.ts_txn.specs.declared.retired.Noted.{Noted}
use Rattle.ts_txn.specs.declared.retired.Retired.{Retired}
use Rattle.ts_txn.specs.declared.txn.Txn.{Txn}
use Rattle.ts_txn.specs.declared.txn.TxnTag.{TxnTag}
use Rattle.ts_waiting.specs.Waiting.{IsSameSpan, IsSoundWait, IsWaitOf}
use Rattle.ts_waiting.specs.declared.waiting.WaitTag.{WaitTag}
use Rattle.ts_waiting.specs.declared.waiting.Waiting.{Waiting}
use Rattle.ts_serve.specs.Exchanges.{whose_of}
use Rattle.ts_serve.specs.Leaving.{BecomesOf, LeavesWhose}
use Rattle.ts_serve.specs.Places.{FitsAtPlace}
use Rattle.ts_serve.specs.Tenants.{MayLive}
use Rattle.ts_serve.specs.declared.leaving.Leaving.{Leaving}
use Rattle.ts_serve.specs.declared.placed.AtPlace.{AtPlace}
use Rattle.ts_serve.specs.declared.sessions.Ended.{Ended}
use Rattle.ts_serve.specs.declared.sessions.GoesOn.{GoesOn}
use Rattle.ts_serve.specs.declared.sessions.SessionTerms.{SessionTerms}
use Rattle.ts_serve.specs.declared.whose.Whose.{Whose}

-- ---- who lives in a place of sessions

-- a transaction of a session in its place, and its tag
abbrev pub ExchangeAt : Type 0 → Type 0 → Type 0 → Type 0
ExchangeAt C O P = AtPlace (Txn (ClientEnd (Course C)) (OriginEnd (Spanned O) P) P)

abbrev pub ExchangeTag : Type 0 → Type 0 → Type 0 → Type 0
ExchangeTag C O P = AtPlace (TxnTag (ClientEnd (Course C)) (OriginEnd (Spanned O) P))

-- it, or a client that waits, and the tag
abbrev pub InSession : Type 0 → Type 0 → Type 0 → Type 0
InSession C O P = Either (ExchangeAt C O P) (Waiting C (Ended O))

abbrev pub InSessionTag : Type 0 → Type 0 → Type 0 → Type 0
InSessionTag C O P = EitherTag (ExchangeTag C O P) (WaitTag C (Ended O))

-- The terms of a place are those of a setting, and name no transactions that its client has behind it.
pub record AreSessionTerms {O : Type 0} (setting : ExchangeSetting) (terms : SessionTerms O) : Type 0 where
  pub setup : terms.setup.value ≡ arc_value setting.setup
  pub plugins_at : terms.plugins_at ≡ setting.plugins_at
  pub behind : terms.behind.value ≡ None

-- the terms of a place whose client has these behind it
abbrev pub behind_by : {O : Type 0} → SessionTerms O → List (Noted O) → SessionTerms O
behind_by terms notes = record terms { behind = record { marker = record {}; value = Some notes } }

-- of the transaction at a place of the client of this number, with an origin or without one
abbrev pub whose_at : ℕ → ℕ → Bool → Whose
whose_at number place has_origin = record { number = number; place = place; has_origin = has_origin }

-- whose a client is that waits: that of the transaction before
abbrev pub whose_waits : {C O : Type 0} → Waiting C (Ended O) → Whose
whose_waits w = record {
  number = w.left.parts.number;
  place = w.left.place;
  has_origin = is_some w.left.parts.origin;
}

-- whose a handler of a session is
abbrev pub whose_in_session : {C O P : Type 0}
    → InSession C O P → Whose
whose_in_session = either_of whose_of whose_waits

-- the note of what is left of a transaction
abbrev pub noted_of_ended : {O : Type 0} → Ended O → Noted O
noted_of_ended left = record {
  number = left.parts.number;
  place = left.place;
  origin = left.parts.origin;
  cuts = left.parts.cuts;
  end = left.parts.end;
  journal = left.journal;
}

-- the terms show the setup of a setting, and the group of its first plugin line
pub record HasSetting {O : Type 0} (setting : ExchangeSetting) (terms : SessionTerms O) : Type 0 where
  pub setup : terms.setup.value ≡ arc_value setting.setup
  pub plugins_at : terms.plugins_at ≡ setting.plugins_at

-- what is left has the number of this client and an origin, if one was reached for it
abbrev pub LeavesNumber : {C O : Type 0} → Whose → Retired C O → Type 0
LeavesNumber whose r = (r.parts.number ≡ whose.number) × (is_some r.parts.origin ≡ whose.has_origin)

-- whoever comes next is the same one, or the one behind it
abbrev pub LeavesInSession : {C O P : Type 0} → Whose
    → Leaving C O (InSession C O P)
    (GoesOn C) → Type 0
LeavesInSession whose leaving = LeavesWhose whose_in_session whose leaving

-- what is left of a client that waited is what is left of the transaction before, with the client
abbrev pub IsLeftWith : {C O : Type 0} → Ended O → Retired C O → Type 0
IsLeftWith left r = (r.parts ≡ with_client left.parts r.parts.client) × (r.journal ≡ left.journal)

-- this is the span of a request of the client of this number, of which nothing was given and to which nothing
-- was written
pub record IsFreshSpan {C : Type 0} (client : link.Ghosts C) (number : ℕ) (span : Course C) : Type 0 where
  pub named : (shown client span).name ≡ number
  pub no_given : client.tells ≡ true → (shown client span).given ≡ []
  pub no_taken : client.tells ≡ true → (shown client span).taken ≡ []

-- a transaction of a session fits its tag
abbrev pub ExchangeFits : {C O P : Type 0} → link.Ghosts C → link.Ghosts O
    → ExchangeTag C O P
    → ExchangeAt C O P → Type 0
ExchangeFits client origin =
    FitsAtPlace (IsTxnOf (client_link (span_link client)) (origin_link (spanned_link origin)))

-- and what is to hold of it holds
abbrev pub ExchangeSound : {C O P : Type 0} → link.Ghosts C → link.Ghosts O → transform.Ghosts P TransformLine
    → ExchangeAt C O P → State → List Named → Type 0
ExchangeSound client origin stage t s roles =
    IsSoundTxn (client_link (span_link client)) (origin_link (spanned_link origin))
    (origin_uploads (span_link client) (spanned_link origin) spanned_origin stage) stage t.value s.pending
    s.next roles

module _ {C O P : Type 0} (client : link.Ghosts C) (origin : link.Ghosts O)
    (stage : transform.Ghosts P TransformLine) (terms : SessionTerms O) where
  -- where its client tells, the span of the client of this number stands behind the transactions that the
  -- terms name, if they name any
  abbrev pub StandsBehindIf : ℕ → Course C → Type 0
  StandsBehindIf number span = client.tells ≡ true → IfSome terms.behind.value (λ notes.
      StandsAt client origin stage terms.setup.value terms.plugins_at number notes span)

  -- The tag is that of a transaction between such ends with their layers, at the place of the request that
  -- its client's span shows, which stands behind these transactions.
  pub record KeepsExchange (tag : ExchangeTag C O P) : Type 0 where
    pub ends : Ends (Course C) (Spanned O)
    pub ends_are : AreEndsAt (shown client) terms.setup.value terms.plugins_at ends
    pub promise : Promise
    pub tag_is : IsLayeredTag ends false promise false tag.value
    pub place_is : tag.place ≡ ends.client.place
    pub behind : StandsBehindIf ends.number ends.client

  -- The tag is that of a client that waits behind a transaction of this number, which is done as if it were
  -- alone, and behind which the client goes on; it stands behind these transactions.
  pub record KeepsWaiting (tag : WaitTag C (Ended O)) : Type 0 where
    pub parts : TxnParts (Course C) (Spanned O)
    pub done : IsDoneInSession client origin stage terms.setup.value terms.plugins_at parts
        tag.left.value.journal
    pub goes_on : MayGoOn parts
    pub parts_are : tag.left.value.parts ≡ without_client parts
    pub place_is : tag.left.value.place ≡ parts.client.place
    pub next : IsNextSpan client parts.client tag.span.value
    pub named : (shown client tag.span.value).name ≡ parts.number
    pub behind : StandsBehindIf parts.number parts.client

  -- the tag is one of these
  abbrev pub KeepsSession : InSessionTag C O P → Type 0
  KeepsSession (tag.One t) = KeepsExchange t
  KeepsSession (tag.Other t) = KeepsWaiting t

  -- The client goes on behind the transaction of this note: its span is the one that waited behind it, some
  -- of the next request is there, and the transaction stands behind those that the terms name.
  pub record GoesOnBehind (noted : Noted O) (next : GoesOn C) : Type 0 where
    pub request : List ℕ
    pub response : List ℕ
    pub is_note : IsNoteOf client origin stage terms.setup.value terms.plugins_at noted.number request
        response noted
    pub was : Course C
    pub goes : IsNextSpan client is_note.parts.client was
    pub same : IsSameSpan client was next.span
    pub there : 0 < length next.span.request.held
    pub number_is : next.number ≡ noted.number
    pub named : (shown client next.span).name ≡ next.number
    pub behind : StandsBehindIf noted.number is_note.parts.client

  -- A transaction of a session lives in a place of these terms, and has ended there. The journal is that of
  -- its group.
  pub record EndsExchange (t : ExchangeAt C O P) (journal : Log)
      : Type 0 where
    pub tag : ExchangeTag C O P
    pub keeps : KeepsExchange tag
    pub fits : ExchangeFits client origin tag t
    pub roles : List Named
    pub sound : ExchangeSound client origin stage t journal.state roles
    pub ended : has_ended t.value ≡ true
    pub final : IsFinal journal

  -- A client that waits lives in a place of these terms.
  pub record StandsWaiting (w : Waiting C (Ended O)) : Type 0 where
    pub tag : WaitTag C (Ended O)
    pub keeps : KeepsWaiting tag
    pub fits : IsWaitOf client tag w
    pub state : State
    pub sound : IsSoundWait client w state

  -- what holds of what is left of a client, where these transactions stand before its last one, or it is not
  -- said which
  abbrev pub IsDoneBy : Option (List (Noted O)) → Retired C O → Type 0
  IsDoneBy None r = IsLastOf client origin stage terms.setup.value terms.plugins_at r
  IsDoneBy (Some notes) r = IsSessionOf client origin stage terms.setup.value terms.plugins_at notes r

  -- and where nothing is left over of it
  abbrev pub IsSpentBy : Option (List (Noted O)) → Retired C O → Type 0
  IsSpentBy None r = ⊤
  IsSpentBy (Some notes) r = IsSpent client origin stage terms.setup.value terms.plugins_at notes r

-- ---- who lives in such a place

module _ {C O P : Type 0} (client : link.Ghosts C) (origin : link.Ghosts O)
    (stage : transform.Ghosts P TransformLine) where
  -- it may be let into a place of these terms
  abbrev pub LivesAs : SessionTerms O → ExchangeAt C O P → Type 0
  LivesAs terms t =
      MayLive (ExchangeFits client origin) (KeepsExchange client origin stage)
      (ExchangeSound client origin stage) terms t

  -- and so may a transaction or a client that waits
  abbrev pub LivesInSession : SessionTerms O
      → InSession C O P → Type 0
  LivesInSession terms handler =
      MayLive (EitherFits (ExchangeFits client origin) (IsWaitOf client)) (KeepsSession client origin stage)
      (EitherSound (ExchangeSound client origin stage) (λ w s roles. IsSoundWait client w s)) terms handler

  -- what becomes of a client in a place of these terms
  abbrev pub BecomesInSession : SessionTerms O → Leaving C O
      (InSession C O P) (GoesOn C)
      → Type 0
  BecomesInSession terms leaving =
      BecomesOf (IsDoneBy client origin stage terms terms.behind.value)
      (IsSpentBy client origin stage terms terms.behind.value)
      (IsNote client origin stage terms.setup.value terms.plugins_at) (GoesOnBehind client origin stage terms)
      (LivesInSession terms) leaving
