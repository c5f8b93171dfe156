-- What is seen of a span, the link that shows one request of a client and then its end.
use Rattle.std.specs.Prelude.{◌≡◌, ℕ, ◌+◌, ◌-◌, ◌<◌, ◌≤◌, List, [], ◌++◌, length, take, drop, slice_range}
use Rattle.std.specs.Prelude.{Bool, true, false, ◌&&◌, ◌==◌, if◌then◌else◌, nat_lt, None, ⊤, refl}
use Rattle.std.proofs.Common.{◌∙◌}
use Rattle.httparse.specs.Grammar as grammar
use Rattle.httparse.specs.Grammar.{print_request}
use Rattle.ts_link.specs.Link.{Look, all_of}
use Rattle.ts_wire.specs.Heads.{BeginsWithRequest, LacksRequest}
use Rattle.ts_wire.specs.Limits.{head_limit}
use Rattle.ts_wire.specs.Place.{Place}
use Rattle.ts_wire.specs.RequestEnds.{end_of_request}
use Rattle.ts_wire.specs.declared.ends.RequestEnd.{RequestEnd}
use Rattle.ts_wire.specs.declared.ends.RequestEnd.TheVariants as E
use Rattle.ts_session.specs.Chunks.{IsAmid}
use Rattle.ts_session.specs.FirstRequest.{first_request}
use Rattle.ts_session.specs.Kept.{close_line}
use Rattle.ts_session.specs.Limits.{most_places}
use Rattle.ts_session.specs.Lines.{BeginsLine, HasEnded, IsCut, ShowsHead, may_drop_at, new_lines}
use Rattle.ts_session.specs.Requests.{GivesAll, IsBodyBy, asks_head, persists}
use Rattle.ts_session.specs.declared.course.Course.{Course}
use Rattle.ts_session.specs.declared.lines.Lines.{Lines}
use Rattle.ts_session.specs.declared.request.Reading.{Reading}
use Rattle.ts_session.specs.declared.request.Reading.TheVariants as R
use Rattle.ts_session.specs.declared.request.Request.{Request}
use Rattle.ts_session.specs.declared.response.Response.{Response}
use Rattle.ts_session.specs.declared.response.Sending.{Sending}
use Rattle.ts_session.specs.declared.response.Sending.TheVariants as S

-- what stands in a list behind a front of it
abbrev pub since : List ℕ → List ℕ → List ℕ
since front bytes = drop (length front) bytes

-- ---- the request

-- what was given on of what the client gave, where these last bytes of it are held
abbrev pub given_on : List ℕ → List ℕ → List ℕ
given_on held given = take (length given - length held) given

-- a client that is seen so, where this stands before the request and so much of this was given on: what is
-- shown of the request
abbrev pub shown_behind : List ℕ → List ℕ → Look → Look
shown_behind before given l = record l {
  given = given;
  left = since given (first_request (since before l.source));
}

abbrev pub request_through : List ℕ → Request → Look → Look
request_through before r l = shown_behind before (since before (given_on r.held l.given)) l

-- the head is still read
abbrev pub is_head : Reading → Bool
is_head R.Head = true
is_head _ = false

-- a request of which nothing is known, where these bytes are held
abbrev pub fresh_request : Place → List ℕ → Request
fresh_request chunks held = record {
  held = held;
  chunks = chunks;
  reading = R.Head;
  persists = false;
  asks_head = false;
}

-- so many of the first bytes are the body of a request that ends so: as many as its head says, or a whole
-- body in chunks
abbrev pub HasBodyOf : RequestEnd → ℕ → List ℕ → Type 0
HasBodyOf (E.Sized n) size bytes = size ≡ n
HasBodyOf E.Chunked size bytes = (size ≤ length bytes) × IsBodyBy E.Chunked (take size bytes)
HasBodyOf E.Unknown size bytes = ⊥

-- where the request ends is known, and so many bytes of it are still to be given
pub record IsKnown (n : ℕ) (r : Request) (given : List ℕ) : Type 0 where
  pub head : grammar.RequestHead
  pub rest : List ℕ
  pub begins : BeginsWithRequest (given ++ r.held) head rest
  pub size : ℕ
  pub ends : HasBodyOf (end_of_request head) size rest
  pub long : length given + n ≡ length (print_request head) + size
  pub persists_is : r.persists ≡ persists head
  pub asks_is : r.asks_head ≡ asks_head head

-- behind a head these bytes have a body in chunks, all of which was looked at and which goes on behind them
pub record IsInChunks (r : Request) (bytes : List ℕ) : Type 0 where
  pub head : grammar.RequestHead
  pub rest : List ℕ
  pub begins : BeginsWithRequest bytes head rest
  pub ends : end_of_request head ≡ E.Chunked
  pub amid : IsAmid rest r.chunks
  pub persists_is : r.persists ≡ persists head
  pub asks_is : r.asks_head ≡ asks_head head

-- what holds of what was given and of what the client has left, by how far the request is
abbrev pub StandsBy : Reading → Request → List ℕ → List ℕ → Type 0
StandsBy R.Head r given left = given ≡ []
StandsBy (R.Known n) r given left = IsKnown n r given
StandsBy R.Chunks r given left = IsInChunks r (given ++ r.held)
StandsBy R.Open r given left = GivesAll (given ++ (r.held ++ left))

-- before the request stands what came before, then what was given of it, and last what is held
pub record IsPlaced (before : List ℕ) (r : Request) (l : Look) : Type 0 where
  pub given : List ℕ
  pub placed : l.given ≡ before ++ (given ++ r.held)
  pub whole : all_of l ≡ l.source
  pub stands : StandsBy r.reading r given l.left

-- no head is whole in what is held, and there is room for more of one
abbrev pub HoldsHead : Reading → List ℕ → Type 0
HoldsHead R.Head held = LacksRequest held × (length held < head_limit)
HoldsHead _ held = ⊤

-- WHAT HOLDS of the request
pub record HoldsRequest (tells : Bool) (before : List ℕ) (r : Request) (l : Look) : Type 0 where
  pub head : HoldsHead r.reading r.held
  pub link : tells ≡ true → IsPlaced before r l

-- ---- the response

-- what was written and is held or owed: the client did not take it yet
abbrev pub waiting : Sending → List ℕ
waiting (S.Line count) = take count close_line
waiting (S.Owed from to) = slice_range close_line from to
waiting _ = []

-- What was written, by what the client took since the request began and since the line was dropped: where
-- `connection: close` was dropped, the client did not take it.
abbrev pub written_by : Sending → List ℕ → List ℕ → List ℕ → List ℕ
written_by S.Dropped start cut taken = since start cut ++ (close_line ++ since cut taken)
written_by (S.Line count) start cut taken = since start taken ++ take count close_line
written_by (S.Owed from to) start cut taken = since start taken ++ slice_range close_line from to
written_by _ start cut taken = since start taken

-- the line was dropped
abbrev pub is_dropped : Sending → Bool
is_dropped S.Dropped = true
is_dropped _ = false

-- a line was found that may be dropped: it was dropped, or some of it is held, or was held and is owed
abbrev pub has_found : Sending → Bool
has_found S.Dropped = true
has_found (S.Line count) = true
has_found (S.Owed from to) = true
has_found _ = false

-- so much of the line was written, and is held, or was dropped with the rest
abbrev pub line_at : ℕ → Sending
line_at count = if nat_lt count (length close_line) then S.Line count else S.Dropped

-- some of the line is held, but not all of it; some is owed of what was held
abbrev pub IsWithin : Sending → Type 0
IsWithin (S.Line count) = (0 < count) × (count < length close_line)
IsWithin (S.Owed from to) = (from < to) × (to < length close_line)
IsWithin _ = ⊤

-- how a response is sent on, by whether its head has ended
abbrev pub stage_by : Bool → Sending
stage_by true = S.Passing
stage_by false = S.Head

-- its head has been written, or its line was dropped
abbrev pub IsRest : Sending → Type 0
IsRest S.Dropped = ⊤
IsRest S.Passing = ⊤
IsRest _ = ⊥

-- nothing of it was written
abbrev pub fresh_response : Response
fresh_response = record { sending = S.Head; lines = new_lines }

-- this was written of a head: whole lines, and of the line that was begun then so much of `connection: close`
pub record IsOwing (asks : Bool) (lines : Lines) (count : ℕ) (written : List ℕ) : Type 0 where
  pub shows : ShowsHead written lines
  pub before : List ℕ
  pub begins : BeginsLine asks before
  pub written_is : written ≡ before ++ take count close_line

-- the client took what was sent, behind what it took before
abbrev pub TookSent : List ℕ → List ℕ → (List ℕ → Type 0) → Type 0
TookSent start taken Holds = (sent : List ℕ) × (taken ≡ start ++ sent) × Holds sent

-- how the response stands, where it is known what was sent of it before the line was dropped, or so far
abbrev pub RespondsBy : Sending → Lines → Bool → List ℕ → List ℕ → List ℕ → Type 0
RespondsBy S.Head lines asks start cut taken = TookSent start taken (λ sent. ShowsHead sent lines)
RespondsBy (S.Line count) lines asks start cut taken =
    TookSent start taken (λ sent. ShowsHead sent lines × (may_drop_at lines asks ≡ true))
RespondsBy (S.Owed from to) lines asks start cut taken =
    TookSent start taken (λ sent. IsOwing asks lines to (sent ++ slice_range close_line from to))
RespondsBy S.Passing lines asks start cut taken = TookSent start taken HasEnded
RespondsBy S.Dropped lines asks start cut taken = IsCut asks start cut taken

-- WHAT HOLDS of the response
abbrev pub HoldsResponse : Bool → Bool → List ℕ → List ℕ → Response → Look → Type 0
HoldsResponse tells asks start cut p l =
    tells ≡ true → RespondsBy p.sending p.lines asks start cut l.taken

-- it was given whole
abbrev pub is_whole : Reading → Bool
is_whole (R.Known n) = n == 0
is_whole _ = false

-- the request was given whole, its client lets the connection go on, and the session may carry more requests
abbrev pub may_go_on : Request → ℕ → Bool
may_go_on r place = is_whole r.reading && (r.persists && nat_lt place most_places)

-- so it is where a line was found that may be dropped
abbrev pub MayGoOn : Sending → Request → ℕ → Type 0
MayGoOn x r place = has_found x ≡ true → may_go_on r place ≡ true

-- ---- the span

-- bytes that are seen of a link that tells, and none of any other
abbrev pub told : Bool → List ℕ → List ℕ
told true bytes = bytes
told false bytes = []

module _ {C : Type 0} (look : C → Look) where
  -- what the client gave before the request, and took before the response
  abbrev pub given_before : Course C → List ℕ
  given_before s =
      take (length (look s.begun.value).given - s.surplus) (look s.begun.value).given

  abbrev pub taken_before : Course C → List ℕ
  taken_before s = (look s.begun.value).taken

  -- what the connection had given and taken before this client came
  abbrev pub before_client : Course C → List ℕ × List ℕ
  before_client s = (look s.begun.value).before

  -- what was given of the request, what is left of it, and what was written of the response
  abbrev pub request_given : Course C → List ℕ
  request_given s = since (given_before s) (given_on s.request.held (look s.client).given)

  -- the request, which is the first of what the client gives from there on
  abbrev pub request_of : Course C → List ℕ
  request_of s = first_request (since (given_before s) (look s.client).source)

  abbrev pub request_rest : Course C → List ℕ
  request_rest s = since (request_given s) (request_of s)

  abbrev pub response_written : Course C → List ℕ
  response_written s =
      written_by s.response.sending (taken_before s) (look s.cut.value).taken (look s.client).taken

  -- WHAT IS SEEN of a span: of its request alone. Its calls are its own, so it tells no plan of them; and no
  -- upload writes to it.
  abbrev pub span_look : Bool → Course C → Look
  span_look tells s = record (look s.client) {
    given = told tells (request_given s);
    left = told tells (request_rest s);
    taken = told tells (response_written s);
    source = request_of s;
    reads = s.reads;
    writes = s.writes;
    agains = None;
    plan = None;
    carried = [];
    before = ((before_client s).0 ++ given_before s, (before_client s).1 ++ taken_before s);
  }

  -- HOW A SPAN STANDS between two calls
  pub record IsSound (tells : Bool) (s : Course C) : Type 0 where
    pub request : HoldsRequest tells (given_before s) s.request (look s.client)
    pub response : HoldsResponse tells s.request.asks_head (taken_before s) (look s.cut.value).taken
        s.response (look s.client)
    pub within : IsWithin s.response.sending
    pub rule : MayGoOn s.response.sending s.request s.place
    pub begun : (look s.client).before ≡ (look s.begun.value).before

-- the second is the first after some calls of it as a link, or the same link
pub record SpanGoes {C : Type 0} (goes : C → C → Type 0) (s t : Course C) : Type 0 where
  pub client : goes s.client t.client
  pub begun : t.begun.value ≡ s.begun.value
  pub surplus : t.surplus ≡ s.surplus
  pub place : t.place ≡ s.place

module _ {C : Type 0} where
  -- no call at all
  pub span_same : (goes : C → C → Type 0) → ((c : C) → goes c c) → (s : Course C) → SpanGoes goes s s
  span_same goes same s =
      record { client = same s.client; begun = refl; surplus = refl; place = refl }

  -- calls after calls
  pub span_on : (goes : C → C → Type 0) → ((a b c : C) → goes a b → goes b c → goes a c)
      → (s t u : Course C) → SpanGoes goes s t → SpanGoes goes t u → SpanGoes goes s u
  span_on goes on s t u p q = record {
    client = on s.client t.client u.client p.client q.client;
    begun = q.begun ∙ p.begun;
    surplus = q.surplus ∙ p.surplus;
    place = q.place ∙ p.place;
  }

  -- calls of a link leave it the same link
  pub span_still : (goes still : C → C → Type 0) → ((a b : C) → goes a b → still a b)
      → (s t : Course C) → SpanGoes goes s t → SpanGoes still s t
  span_still goes still weaker s t p = record {
    client = weaker s.client t.client p.client;
    begun = p.begun;
    surplus = p.surplus;
    place = p.place;
  }
