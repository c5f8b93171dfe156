-- THE SESSIONS OF CLIENTS: what the transactions of one connection had for their requests, one after the
-- other, and what its client took of their responses (RFC 9112, sections 9.3 and 9.6).
use Rattle.std.specs.Prelude.{◌≡◌, ◌⊎◌, ◌<◌, ◌≤◌, ℕ, List, [], ◌++◌, true}
use Rattle.std.specs.List.{concat}
use Rattle.ts_config.specs.declared.setup.Setup.{Setup}
use Rattle.ts_config.specs.declared.setup.TransformLine.{TransformLine}
use Rattle.ts_history.specs.Done.{IsTxnDone}
use Rattle.ts_history.specs.History.{StandsBehind}
use Rattle.ts_journal.specs.Log.{Log}
use Rattle.ts_layers.specs.Sessions.{MayGoOn, shown, span_link, spanned_link, spanned_origin, unspanned_if}
use Rattle.ts_layers.specs.Sessions.{with_client, without_client}
use Rattle.ts_link.specs.Counts.{greatest}
use Rattle.ts_link.specs.Link.{all_of}
use Rattle.ts_link.specs.declared.link.Link as link
use Rattle.ts_session.specs.Course.{before_client, is_dropped, waiting}
use Rattle.ts_session.specs.FirstRequest.{first_request}
use Rattle.ts_session.specs.Lines.{HasEnded}
use Rattle.ts_session.specs.Session.{IsSent, MayContinue}
use Rattle.ts_session.specs.declared.course.Course.{Course}
use Rattle.ts_session.specs.declared.spanned.Spanned.{Spanned}
use Rattle.ts_transform.specs.declared.transform.Transform as transform
use Rattle.ts_txn.specs.declared.making.TxnParts.{TxnParts}
use Rattle.ts_txn.specs.declared.retired.Noted.{Noted}
use Rattle.ts_txn.specs.declared.retired.Retired.{Retired}

-- ---- one transaction of a session

-- It has ended, with this journal of its group: all that is said of a transaction holds of it as if it were
-- alone. Its client is the span of one request.
abbrev pub IsDoneInSession : {C O P : Type 0} → link.Ghosts C → link.Ghosts O
    → transform.Ghosts P TransformLine → Setup → ℕ → TxnParts (Course C) (Spanned O) → Log → Type 0
IsDoneInSession client origin stage setup plugins_at parts journal =
    IsTxnDone (span_link client) (spanned_link origin) spanned_origin stage setup plugins_at
    (record { parts = parts; journal = journal })

module _ {C : Type 0} (client : link.Ghosts C) where
  -- its client bytes, and what was written to its client
  abbrev pub request_of : {O : Type 0} → TxnParts (Course C) O → List ℕ
  request_of parts = all_of (shown client parts.client)

  abbrev pub response_of : {O : Type 0} → TxnParts (Course C) O → List ℕ
  response_of parts = (shown client parts.client).taken

-- ---- those of one connection

module _ {C O P : Type 0} (client : link.Ghosts C) (origin : link.Ghosts O)
    (stage : transform.Ghosts P TransformLine) (setup : Setup) (plugins_at : ℕ) where
  -- THE NOTE of a transaction of the client of this number, behind which that client went on: the transaction
  -- ended whole, and `connection: close` was dropped from its response
  pub record IsNoteOf (number : ℕ) (request response : List ℕ) (note : Noted O) : Type 0 where
    pub parts : TxnParts (Course C) (Spanned O)
    pub done : IsDoneInSession client origin stage setup plugins_at parts note.journal
    pub went_on : MayGoOn parts
    pub rule : client.tells ≡ true → MayContinue (shown client parts.client) parts.client.place
    pub request_is : request_of client parts ≡ request
    pub response_is : response_of client parts ≡ response
    pub of_client : note.number ≡ number
    pub number_is : note.number ≡ parts.number
    pub place_is : note.place ≡ parts.client.place
    pub origin_is : note.origin ≡ unspanned_if parts.origin
    pub cuts_are : note.cuts ≡ parts.cuts
    pub end_is : note.end ≡ parts.end

  -- it is the note of some transaction
  pub record IsNote (note : Noted O) : Type 0 where
    pub request : List ℕ
    pub response : List ℕ
    pub is_note : IsNoteOf note.number request response note

  -- the span of a client of this number stands behind the transactions of these notes
  abbrev pub StandsAt : ℕ → List (Noted O) → Course C → Type 0
  StandsAt number notes span =
      StandsBehind (IsNoteOf number) (λ note. note.place) (before_client client.look span) notes span.place
      (shown client span)

  -- THE BYTES OF A CLIENT that was handed over, where its link tells: behind the transactions of its notes
  -- stands its last one. All that it gave and may still give are the requests of those, and then the rest,
  -- whose first request is that of the last one, or all of it where that is no whole request. It took what
  -- was kept of the responses of those, and then of the last one's response what was kept, where the line
  -- `connection: close` was dropped, which is done by the rule alone, or else all of it, but for the front of
  -- such a line where its head had not ended.
  pub record HasSession (notes : List (Noted O)) (parts : TxnParts (Course C) (Spanned O)) (c : C)
      : Type 0 where
    pub stands : StandsAt parts.number notes parts.client
    pub rest : List ℕ
    pub gave : all_of (client.look c) ≡ concat stands.requests ++ rest
    pub next : request_of client parts ≡ first_request rest
    pub sent : List ℕ
    pub is_sent : IsSent (is_dropped parts.client.response.sending) (waiting parts.client.response.sending)
        (response_of client parts) sent
    pub rule : is_dropped parts.client.response.sending ≡ true
        → MayContinue (shown client parts.client) parts.client.place
    pub took : (client.look c).taken ≡ concat stands.responses ++ sent
    pub within_head : HasEnded (response_of client parts)
        → waiting parts.client.response.sending ≡ []

  -- THE LAST TRANSACTION of a client that was handed over: what is left of it is what the transaction left,
  -- with the client in the place of its span
  pub record IsLastOf (r : Retired C O) : Type 0 where
    pub named : (client.look r.parts.client).name ≡ r.parts.number
    pub parts : TxnParts (Course C) (Spanned O)
    pub done : IsDoneInSession client origin stage setup plugins_at parts r.journal
    pub parts_are : r.parts ≡ with_client (without_client parts) r.parts.client

  -- THE SESSION OF A CLIENT that was handed over: its transactions are those of its notes, in the order of
  -- their places, and a last one
  pub record IsSessionOf (notes : List (Noted O)) (r : Retired C O) : Type 0 where
    pub last : IsLastOf r
    pub told : client.tells ≡ true → HasSession notes last.parts r.parts.client

  -- NOTHING IS LEFT OVER of a client that could have gone on, unless its link failed since its last
  -- transaction was made, or the count of its faults is at its end: every byte that it gave or may still give
  -- is in one of its transactions
  pub record IsSpent (notes : List (Noted O)) (r : Retired C O) : Type 0 where
    pub session : IsSessionOf notes r
    pub spent : (tells : client.tells ≡ true) → MayGoOn session.last.parts
        → ((session.told tells).rest ≡ request_of client session.last.parts)
        ⊎ ((r.parts.client_faults < (client.look r.parts.client).faults)
        ⊎ (greatest ≤ (client.look r.parts.client).faults))
