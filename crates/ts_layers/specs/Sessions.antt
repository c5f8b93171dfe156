-- A transaction in a session, which has the span of one request for its client, and what is left of it: the
-- span of the next request, or the client (RFC 9112, section 9.3).
use Rattle.std.specs.Prelude.{◌≡◌, ⊤, ◌+◌, ◌≤◌, true, Option, Some}
use Rattle.std.specs.Option.{option_map}
use Rattle.ts_hooks.specs.declared.txn_end.TxnEnd.TheVariants as E
use Rattle.ts_link.specs.Link.{Look}
use Rattle.ts_link.specs.declared.link.Link as link
use Rattle.ts_session.specs.Course.{SpanGoes, before_client, is_dropped, span_look, waiting}
use Rattle.ts_session.specs.Limits.{most_places}
use Rattle.ts_session.specs.Reading.{IsUnread}
use Rattle.ts_session.specs.Session.{GoesBehind, IsSession, MayContinue, spanned_look}
use Rattle.ts_session.specs.declared.course.Course.{Course}
use Rattle.ts_session.specs.declared.spanned.Spanned.{Spanned}
use Rattle.ts_txn.specs.declared.making.TxnParts.{TxnParts}
use Rattle.ts_upstream.specs.Uploads.{MovesNothing}
use Rattle.ts_upstream.specs.declared.upstream.Upstream as upstream
use Rattle.ts_layers.specs.declared.session.EndedParts.{EndedParts}
use Rattle.ts_layers.specs.declared.session.SessionLeft.{SessionLeft}
use Rattle.ts_layers.specs.declared.session.SessionLeft.TheVariants as L

-- ---- the links of a session

-- the span of a request, as a link
abbrev pub span_link : {C : Type 0} → link.Ghosts C → link.Ghosts (Course C)
span_link client = record {
  tells = client.tells;
  look = span_look client.look client.tells;
  goes = SpanGoes client.goes;
  still = SpanGoes client.still;
}

-- the link to an origin for such a client, and back
abbrev pub spanned : {O : Type 0} → O → Spanned O
spanned o = record { origin = o }

abbrev pub spanned_if : {O : Type 0} → Option O → Option (Spanned O)
spanned_if origin = option_map spanned origin

abbrev pub unspanned_if : {O : Type 0} → Option (Spanned O) → Option O
unspanned_if origin = option_map (λ s. s.origin) origin

abbrev pub spanned_link : {O : Type 0} → link.Ghosts O → link.Ghosts (Spanned O)
spanned_link origin = record {
  tells = origin.tells;
  look = λ s. spanned_look (origin.look s.origin);
  goes = λ s t. origin.goes s.origin t.origin;
  still = λ s t. origin.still s.origin t.origin;
}

-- it belongs to any client, and has no upload of its own to move
abbrev pub spanned_origin : {C O : Type 0} → upstream.Ghosts (Spanned O) (Course C)
spanned_origin = record {
  paired = λ c s. ⊤;
  refuses = λ s list. ⊥;
  upload_left = λ c s. Some 0;
  one_upload = MovesNothing;
}

-- ---- what is left

-- the parts beside the client
abbrev pub without_client : {C O : Type 0} → TxnParts C (Spanned O) → EndedParts O
without_client parts = record {
  number = parts.number;
  origin = unspanned_if parts.origin;
  head = parts.head;
  mode = parts.mode;
  client_faults = parts.client_faults;
  origin_faults = parts.origin_faults;
  cuts = parts.cuts;
  end = parts.end;
}

-- and with a client
abbrev pub with_client : {C O : Type 0} → EndedParts O → C → TxnParts C O
with_client parts client = record {
  number = parts.number;
  client = client;
  origin = parts.origin;
  head = parts.head;
  mode = parts.mode;
  client_faults = parts.client_faults;
  origin_faults = parts.origin_faults;
  cuts = parts.cuts;
  end = parts.end;
}

-- WHERE A CONNECTION GOES ON behind a transaction: it ended whole, and `connection: close` was dropped from
-- its response
pub record MayGoOn {C O : Type 0} (parts : TxnParts (Course C) O) : Type 0 where
  pub whole : parts.end ≡ Some E.Whole
  pub dropped : is_dropped parts.client.response.sending ≡ true

module _ {C : Type 0} (client : link.Ghosts C) where
  -- what is seen of the span of a request
  abbrev pub shown : Course C → Look
  shown span = span_look client.look client.tells span

  -- The span of the next request, of the same connection: it begins behind this one and behind what is kept
  -- of its response, and nothing of it was given.
  pub record IsNextSpan (span next : Course C) : Type 0 where
    pub rule : client.tells ≡ true → MayContinue (shown span) span.place
    pub behind : client.tells ≡ true → GoesBehind (shown span) (shown next)
    pub client_is : next.client ≡ span.client
    pub since : before_client client.look next ≡ before_client client.look span
    pub place_is : next.place ≡ span.place + 1
    pub within : next.place ≤ most_places
    pub unread : IsUnread next.request

  -- The client whose last request that of the span was: it took the response, without its line `connection:
  -- close` where that was dropped, which is done only where the connection may go on.
  pub record IsLastClient (span : Course C) (c : C) : Type 0 where
    pub client_is : c ≡ span.client
    pub since : (client.look c).before ≡ before_client client.look span
    pub rule : client.tells ≡ true → is_dropped span.response.sending ≡ true
        → MayContinue (shown span) span.place
    pub session : client.tells ≡ true → IsSession (shown span) (is_dropped span.response.sending)
        (waiting span.response.sending) (client.look c)

  -- WHAT BECOMES of a transaction and of its client: where the connection goes on there is the next request,
  -- and else it was the last.
  abbrev pub IsLeftOf : {O : Type 0} → TxnParts (Course C) (Spanned O) → SessionLeft C O → Type 0
  IsLeftOf parts (L.GoesOn next ended) =
      MayGoOn parts × (ended ≡ without_client parts) × IsNextSpan parts.client next
  IsLeftOf parts (L.Ends last) =
      (MayGoOn parts → ⊥) × (last ≡ with_client (without_client parts) last.client)
      × IsLastClient parts.client last.client
