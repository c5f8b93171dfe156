-- A head that is printed is one head of the grammar (RFC 9112, sections 2 to 5): the text is that head and
-- nothing else, and it can be read in no other way. This is what keeps a request from hiding in another one.
-- The grammar alone speaks here, without this project's limits: a head that is sent on may have a few lines
-- more than the one that was read.
use Rattle.std.specs.Prelude.{◌≡◌, ℕ, ◌≤◌, ◌⊎◌, Bool, true, false, List, [], ◌∷◌, map, filter, All, Ok, if◌then◌else◌, codes, bytes_eq, ⊤}
use Rattle.http_header.specs.Token.{lowercase}
use Rattle.http_header.specs.FieldValue.{IsFieldValue}
use Rattle.httparse.specs.Grammar as grammar
use Rattle.httparse.specs.Grammar.{AllPass, IsToken, is_value_byte, LineEnd, crlf, IsRequestHead, IsResponseHead, ReadsRequest, ReadsResponse, status_code}
use Rattle.ts_wire.specs.Limits.{body_limit}
use Rattle.ts_wire.specs.declared.fields.Field.{Field}
use Rattle.ts_wire.specs.declared.heads.RequestHead.{RequestHead}
use Rattle.ts_wire.specs.declared.heads.ResponseHead.{ResponseHead}
use Rattle.ts_wire.specs.declared.framing.Framing.{Framing}
use Rattle.ts_wire.specs.declared.framing.Framing.TheVariants as F
use Rattle.ts_wire.specs.declared.framing.ContentLength.{ContentLength}
use Rattle.ts_wire.specs.declared.framing.ContentLength.TheVariants as L
use Rattle.ts_wire.specs.declared.framing.TransferCoding.{TransferCoding}
use Rattle.ts_wire.specs.declared.framing.TransferCoding.TheVariants as C
use Rattle.ts_wire.specs.declared.printed.ClientFraming.{ClientFraming}
use Rattle.ts_wire.specs.declared.printed.ClientFraming.TheVariants.{Sized, Chunked}
use Rattle.ts_wire.specs.FieldList.{is_named, values_named}
use Rattle.ts_wire.specs.Forward.{forwarded}
use Rattle.ts_wire.specs.Framing.{length_named, coding_named, has_no_body, framing}
use Rattle.ts_wire.specs.Heads.{kept_field, KeepsRequest, KeepsResponse}
use Rattle.ts_wire.specs.Check.{begins_with_slash, check}

-- the text is this head and nothing else, and no other head stands at its front
pub record IsOne {H : Type 0} (Reads : List ℕ → H → List ℕ → Type 0) (text : List ℕ) (head : H) : Type 0 where
  pub whole : Reads text head []
  pub only : (other : H) (rest : List ℕ) → Reads text other rest → (other ≡ head) × (rest ≡ [])

-- every line of a head ends in CR LF, which all readers take alike, and none is empty but the last
pub record HasCrlfLines (blank : List LineEnd) (start : LineEnd) (fields : List grammar.Field)
    (last : LineEnd) : Type 0 where
  pub none_before : blank ≡ []
  pub start_line : start ≡ crlf
  pub field_lines : All (λ f. f.end ≡ crlf) fields
  pub last_line : last ≡ crlf

-- the values of the fields of the name, as a reader keeps them
abbrev pub values_read : List ℕ → List grammar.Field → List (List ℕ)
values_read name fields = values_named name (map kept_field fields)

-- a path with its query, or `*` (RFC 9112, sections 3.2.1 and 3.2.4)
abbrev pub IsSentTarget : List ℕ → Type 0
IsSentTarget target = (begins_with_slash target ≡ true) ⊎ (target ≡ codes "*")

-- the text is one request, with this method and target, for this host, and without a body
pub record SendsRequest (method target host text : List ℕ) : Type 0 where
  pub head : grammar.RequestHead
  pub one : IsOne ReadsRequest text head
  pub lines : HasCrlfLines head.blank head.line_end head.fields head.last
  pub method_is : head.method ≡ method
  pub target_is : head.target ≡ target
  pub version : head.minor ≡ 1
  pub place : IsSentTarget target
  pub hosts : values_read (codes "host") head.fields ≡ host ∷ []
  pub closes : values_read (codes "connection") head.fields ≡ codes "close" ∷ []
  pub lengths : values_read (codes "content-length") head.fields ≡ []
  pub codings : values_read (codes "transfer-encoding") head.fields ≡ []

-- a field that can stand in a head, with its name in lower case; every field of a head that was read is one
abbrev pub IsPlainField : Field → Type 0
IsPlainField f = IsToken f.name × (lowercase f.name ≡ f.name) × IsFieldValue f.value.bytes

-- fields that leave it to the proxy to say that the connection closes, and where the body ends
pub record LeavesFraming (fields : List Field) : Type 0 where
  pub plain : All IsPlainField fields
  pub connections : values_named (codes "connection") fields ≡ []
  pub lengths : values_named (codes "content-length") fields ≡ []
  pub codings : values_named (codes "transfer-encoding") fields ≡ []

-- fields as header rules make them of those that are sent on: any may be changed, but for Host and those that
-- the proxy says itself
pub record IsChangeOf (sent fields : List Field) : Type 0 where
  pub leaves : LeavesFraming fields
  pub hosts : filter (is_named (codes "host")) fields ≡ filter (is_named (codes "host")) sent

-- a name that a header rule may set, add or remove: neither Host nor one that the proxy says itself
pub record IsFree (name : List ℕ) : Type 0 where
  pub host : bytes_eq name (codes "host") ≡ false
  pub connection : bytes_eq name (codes "connection") ≡ false
  pub length : bytes_eq name (codes "content-length") ≡ false
  pub coding : bytes_eq name (codes "transfer-encoding") ≡ false

-- where fields are a change of those that are sent on, they still are with this field put at the end
abbrev pub MayAdd : List Field → Field → List Field → Type 0
MayAdd old field new =
    (sent : List Field) → IsChangeOf sent old → IsPlainField field → IsFree field.name → IsChangeOf sent new

-- and without the fields of this name
abbrev pub MayRemove : List Field → List ℕ → List Field → Type 0
MayRemove old name new = (sent : List Field) → IsChangeOf sent old → IsFree name → IsChangeOf sent new

-- the head is kept of a head of the grammar, as every head is that `read_request` gives
pub record IsReadRequest (head : RequestHead) : Type 0 where
  pub parsed : grammar.RequestHead
  pub good : IsRequestHead parsed
  pub keeps : KeepsRequest parsed head

-- a request that was read and passed the check is sent as one request, whatever header rules did to its other
-- fields
abbrev pub SendsOneRequest : RequestHead → List ℕ → List ℕ → List Field → List ℕ → Type 0
SendsOneRequest head target host fields text =
    IsReadRequest head → check head ≡ Ok (target, host) → IsChangeOf (forwarded head.fields) fields
    → SendsRequest head.method target host text

-- with no header rule at all, the fields that are sent on are such
abbrev pub ForwardsUnchanged : RequestHead → Type 0
ForwardsUnchanged head = IsReadRequest head → IsChangeOf (forwarded head.fields) (forwarded head.fields)

-- what a head says of the length, whose body is to end so
abbrev pub length_said : ClientFraming → ContentLength
length_said (Sized n) = L.Valid n
length_said _ = L.Absent

-- what it says of the coding
abbrev pub coding_said : ClientFraming → TransferCoding
coding_said Chunked = C.Chunked
coding_said _ = C.Absent

-- the text is one request, with this method and target, for this host, whose body ends as its head was to say:
-- of a length and of a coding it says that and nothing else
pub record SendsUpload (method target host : List ℕ) (sent : ClientFraming) (text : List ℕ) : Type 0 where
  pub head : grammar.RequestHead
  pub one : IsOne ReadsRequest text head
  pub lines : HasCrlfLines head.blank head.line_end head.fields head.last
  pub method_is : head.method ≡ method
  pub target_is : head.target ≡ target
  pub version : head.minor ≡ 1
  pub place : IsSentTarget target
  pub hosts : values_read (codes "host") head.fields ≡ host ∷ []
  pub closes : values_read (codes "connection") head.fields ≡ codes "close" ∷ []
  pub length : length_named (map kept_field head.fields) ≡ length_said sent
  pub coding : coding_named (map kept_field head.fields) ≡ coding_said sent

-- where a reader then sees its end, in a response that may have a body
abbrev pub framing_said : ClientFraming → Framing
framing_said (Sized n) = F.Sized n
framing_said Chunked = F.Chunked
framing_said _ = F.UntilClose

-- the framing that is read is the one that was printed, in an answer to a HEAD and to another request
abbrev pub EndsAsSaid : ℕ → ClientFraming → List Field → Type 0
EndsAsSaid status sent fields =
    (to_head : Bool) → framing status 1 fields to_head
    ≡ (if has_no_body status to_head then F.Nothing else framing_said sent)

-- the text is one response with this status, whose body ends as its head was to say
pub record SendsResponse (status : ℕ) (sent : ClientFraming) (text : List ℕ) : Type 0 where
  pub head : grammar.ResponseHead
  pub one : IsOne ReadsResponse text head
  pub lines : HasCrlfLines head.blank head.line_end head.fields head.last
  pub status_is : status_code head ≡ status
  pub version : head.minor ≡ 1
  pub closes : values_read (codes "connection") head.fields ≡ codes "close" ∷ []
  pub length : length_named (map kept_field head.fields) ≡ length_said sent
  pub coding : coding_named (map kept_field head.fields) ≡ coding_said sent
  pub ends : EndsAsSaid status sent (map kept_field head.fields)

-- a length that can be read back
abbrev pub IsSendable : ClientFraming → Type 0
IsSendable (Sized n) = n ≤ body_limit
IsSendable _ = ⊤

-- the head of one request that says of no body becomes that of one whose body ends so
abbrev pub SendsOneUpload : List ℕ → ClientFraming → List ℕ → Type 0
SendsOneUpload request sent text =
    (method target host : List ℕ) → SendsRequest method target host request → IsSendable sent
    → SendsUpload method target host sent text

-- fields that leave the framing to the proxy are sent to the client as one response
abbrev pub SendsOneResponse : ℕ → List ℕ → List Field → ClientFraming → List ℕ → Type 0
SendsOneResponse status reason fields sent text =
    AllPass is_value_byte reason → LeavesFraming fields → IsSendable sent → SendsResponse status sent text

-- the head is kept of a head of the grammar, as every head is that `read_response` gives
pub record IsReadResponse (head : ResponseHead) : Type 0 where
  pub parsed : grammar.ResponseHead
  pub good : IsResponseHead parsed
  pub keeps : KeepsResponse parsed head

-- a head that was read has a reason that can stand in a status line, and its fields leave it to the proxy,
-- once those that end at this hop are gone
abbrev pub ForwardsPlainly : Type 0
ForwardsPlainly =
    (head : ResponseHead) → IsReadResponse head
    → AllPass is_value_byte head.reason × LeavesFraming (forwarded head.fields)
