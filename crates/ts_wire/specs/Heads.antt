-- The heads of httparse's grammar (RFC 9112, sections 2 to 6), within this project's limits, as it keeps them
use Rattle.std.specs.Prelude.{◌≡◌, ℕ, ◌<◌, ◌≤◌, ◌⊎◌, List, ◌++◌, map, length, take, drop}
use Rattle.http_header.specs.Token.{lowercase}
use Rattle.http_header.specs.FieldName.{IsFieldName}
use Rattle.http_header.specs.FieldValue.{plain_value, IsFieldValue}
use Rattle.httparse.specs.declared.spans.HeaderSpan.{HeaderSpan}
use Rattle.httparse.specs.declared.spans.RequestSpans.{RequestSpans}
use Rattle.httparse.specs.declared.spans.ResponseSpans.{ResponseSpans}
use Rattle.httparse.specs.Grammar as grammar
use Rattle.httparse.specs.Grammar.{field_value, IsRequestHead, print_request, HasNoRequest, MayBecomeRequest, IsResponseHead, print_response, HasNoResponse, MayBecomeResponse, status_code, reason_phrase}
use Rattle.httparse.specs.Spans.{span_bytes, IsHeaderWithin, IsRequestAt, IsResponseAt, RequestExceeds, ResponseExceeds}
use Rattle.ts_wire.specs.Limits.{head_limit, field_limit}
use Rattle.ts_wire.specs.declared.fields.Field.{Field}
use Rattle.ts_wire.specs.declared.heads.RequestHead.{RequestHead}
use Rattle.ts_wire.specs.declared.heads.ResponseHead.{ResponseHead}

-- the field with this name, in lower case, and this value
abbrev pub field_of : List ℕ → List ℕ → Field
field_of name value = record { name = lowercase name; value = plain_value value }

-- a field line as it is kept: its value has no spaces or tabs at its ends
abbrev pub kept_field : grammar.Field → Field
kept_field f = field_of f.name (field_value f)

-- ---- a kind of head, by what makes one good, how it is printed, and its field lines

-- the bytes begin with the head h, which is within the limits, and rest follows
pub record BeginsWith {H : Type 0} (Good : H → Type 0) (print : H → List ℕ) (lines : H → List grammar.Field)
    (bytes : List ℕ) (h : H) (rest : List ℕ) : Type 0 where
  pub reads : Good h × (bytes ≡ print h ++ rest)
  pub short : length (print h) ≤ head_limit
  pub few : length (lines h) ≤ field_limit

-- the first bytes, so many, are a head within the limits, and this is what is kept of it
pub record IsHeadOf {H K : Type 0} (Good : H → Type 0) (print : H → List ℕ) (lines : H → List grammar.Field)
    (Keeps : H → K → Type 0) (bytes : List ℕ) (head : K) (used : ℕ) : Type 0 where
  pub parsed : H
  pub begins : BeginsWith Good print lines bytes parsed (drop used bytes)
  pub keeps : Keeps parsed head
  pub len : used ≡ length (print parsed)
  pub some : 0 < used
  pub within : used ≤ length bytes

-- a head that the bytes begin with is kept as this one, and the rest follows it
abbrev pub IsOneHead : {H K : Type 0} → (List ℕ → H → List ℕ → Type 0) → (H → K → Type 0) → List ℕ → K → ℕ
    → Type 0
IsOneHead {H = H} Begins Keeps bytes head used =
    (h : H) (rest : List ℕ) → Begins bytes h rest → Keeps h head × (rest ≡ drop used bytes)

-- no prefix is a head within the limits
abbrev pub LacksHead : {H : Type 0} → (List ℕ → H → List ℕ → Type 0) → List ℕ → Type 0
LacksHead {H = H} Begins bytes = (h : H) (rest : List ℕ) → Begins bytes h rest → ⊥

-- no prefix is a head, and with more bytes one may come to be
pub record Awaits (HasNone MayBecome : List ℕ → Type 0) (bytes : List ℕ) : Type 0 where
  pub short : length bytes < head_limit
  pub none : HasNone bytes
  pub may : MayBecome bytes

-- no prefix is a head within the limits, whatever follows: as many bytes as a head may have are there, or one
-- field line more than a head may have is among them
pub record IsTooLong (LacksHead : List ℕ → Type 0) (Exceeds : ℕ → List ℕ → Type 0)
    (bytes : List ℕ) : Type 0 where
  pub lacks : (more : List ℕ) → LacksHead (bytes ++ more)
  pub why : (head_limit ≤ length bytes) ⊎ Exceeds field_limit (take head_limit bytes)

-- ---- requests

abbrev pub request_fields : grammar.RequestHead → List grammar.Field
request_fields h = h.fields

abbrev pub BeginsWithRequest : List ℕ → grammar.RequestHead → List ℕ → Type 0
BeginsWithRequest = BeginsWith IsRequestHead print_request request_fields

-- the head is what is kept of h
pub record KeepsRequest (h : grammar.RequestHead) (head : RequestHead) : Type 0 where
  pub method : head.method ≡ h.method
  pub target : head.target ≡ h.target
  pub minor : head.minor ≡ h.minor
  pub fields : head.fields ≡ map kept_field h.fields

abbrev pub IsRequestOf : List ℕ → RequestHead → ℕ → Type 0
IsRequestOf = IsHeadOf IsRequestHead print_request request_fields KeepsRequest

abbrev pub IsOneRequest : List ℕ → RequestHead → ℕ → Type 0
IsOneRequest = IsOneHead BeginsWithRequest KeepsRequest

abbrev pub LacksRequest : List ℕ → Type 0
LacksRequest = LacksHead BeginsWithRequest

abbrev pub AwaitsRequest : List ℕ → Type 0
AwaitsRequest = Awaits HasNoRequest MayBecomeRequest

abbrev pub IsTooLongRequest : List ℕ → Type 0
IsTooLongRequest = IsTooLong LacksRequest RequestExceeds

-- ---- responses

abbrev pub response_fields : grammar.ResponseHead → List grammar.Field
response_fields h = h.fields

abbrev pub BeginsWithResponse : List ℕ → grammar.ResponseHead → List ℕ → Type 0
BeginsWithResponse = BeginsWith IsResponseHead print_response response_fields

-- the head is what is kept of the response head h
pub record KeepsResponse (h : grammar.ResponseHead) (head : ResponseHead) : Type 0 where
  pub status : head.status ≡ status_code h
  pub reason : head.reason ≡ reason_phrase h.reason
  pub minor : head.minor ≡ h.minor
  pub fields : head.fields ≡ map kept_field h.fields

abbrev pub IsResponseOf : List ℕ → ResponseHead → ℕ → Type 0
IsResponseOf = IsHeadOf IsResponseHead print_response response_fields KeepsResponse

abbrev pub IsOneResponse : List ℕ → ResponseHead → ℕ → Type 0
IsOneResponse = IsOneHead BeginsWithResponse KeepsResponse

abbrev pub LacksResponse : List ℕ → Type 0
LacksResponse = LacksHead BeginsWithResponse

abbrev pub AwaitsResponse : List ℕ → Type 0
AwaitsResponse = Awaits HasNoResponse MayBecomeResponse

abbrev pub IsTooLongResponse : List ℕ → Type 0
IsTooLongResponse = IsTooLong LacksResponse ResponseExceeds

-- ---- what the parser's spans cover

-- what a header's spans cover, as it is kept
abbrev pub span_field : List ℕ → HeaderSpan → Field
span_field buf h = field_of (span_bytes buf h.name) (span_bytes buf h.value)

-- the spans lie in the bytes, and cover a name and a value
pub record IsFieldAt (buf : List ℕ) (h : HeaderSpan) : Type 0 where
  pub within : IsHeaderWithin (length buf) h
  pub name : IsFieldName (span_bytes buf h.name)
  pub value : IsFieldValue (span_bytes buf h.value)

-- the spans are those of a request head of the grammar
abbrev pub IsSomeRequestAt : List ℕ → List HeaderSpan → RequestSpans → Type 0
IsSomeRequestAt buf headers spans = (h : grammar.RequestHead) × IsRequestAt buf headers spans h

-- the spans are those of a response head of the grammar
abbrev pub IsSomeResponseAt : List ℕ → List HeaderSpan → ResponseSpans → Type 0
IsSomeResponseAt buf headers spans = (h : grammar.ResponseHead) × IsResponseAt buf headers spans h
