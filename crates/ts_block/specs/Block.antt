-- The block of a transaction: what it makes of all that its two links give (RFC 9110, section 7.6; the
-- Developer's Guide, "HTTP Hooks and Transactions").
use Rattle.std.specs.Prelude.{◌≡◌, ◌≢◌, ℕ, ◌⊎◌, Bool, true, false, List, [], ◌∷◌, ◌++◌, Some, Result, Ok, Err}
use Rattle.ts_config.specs.declared.setup.Setup.{Setup}
use Rattle.ts_config.specs.declared.setup.TransformLine.{TransformLine}
use Rattle.ts_config.specs.declared.fields.Side.TheVariants as S
use Rattle.ts_config.specs.Bodies.{compose_lines, is_early}
use Rattle.ts_hooks.specs.declared.txn_end.TxnEnd.{TxnEnd}
use Rattle.ts_hooks.specs.declared.txn_end.TxnEnd.TheVariants as E
use Rattle.ts_wire.specs.declared.fields.Field.{Field}
use Rattle.ts_wire.specs.declared.heads.RequestHead.{RequestHead}
use Rattle.ts_wire.specs.declared.heads.ResponseHead.{ResponseHead}
use Rattle.ts_wire.specs.declared.framing.Framing.{Framing}
use Rattle.ts_wire.specs.declared.framing.Framing.TheVariants as F
use Rattle.ts_wire.specs.declared.printed.ClientFraming.{ClientFraming}
use Rattle.ts_wire.specs.declared.frames.Mode.TheVariants as M
use Rattle.ts_wire.specs.declared.body.BodyState.{BodyState}
use Rattle.ts_wire.specs.declared.body.BodyState.TheVariants as B
use Rattle.ts_wire.specs.Heads.{LacksRequest}
use Rattle.ts_wire.specs.Check.{check, plugin_host, is_absolute}
use Rattle.ts_wire.specs.Forward.{forwarded}
use Rattle.ts_wire.specs.Printed.{origin_text, client_text}
use Rattle.ts_wire.specs.Body.{BodyOf, IsCutShort}
use Rattle.ts_block.specs.Rules.{ruled, is_denied}
use Rattle.std.specs.List.{list_any}
use Rattle.ts_block.specs.Acting.{acting, acts_on}
use Rattle.ts_block.specs.Own.{own_refusal, own_head, own_field, own_sent}
use Rattle.ts_block.specs.Relayed.{asks_head, reads_chunks, framing_of, length_told, client_framing, mode_of}
use Rattle.ts_block.specs.Relayed.{if_body}
use Rattle.ts_block.specs.Heads.{HasRequest, FinalHead, LacksFinal, is_refused_status}
use Rattle.ts_block.specs.declared.own_answer.OwnStatus.{OwnStatus}
use Rattle.ts_block.specs.declared.own_answer.OwnStatus.TheVariants as O
use Rattle.ts_block.specs.declared.block.Block.{Block}

-- no response of the origin's can be passed on
pub data LacksAnswer (q : RequestHead) (o : List ℕ) : Type 0 where
  no_final : LacksFinal o → LacksAnswer q o
  bad_status : (h : ResponseHead) (rest : List ℕ) → FinalHead o h rest → is_refused_status h.status ≡ true
      → LacksAnswer q o
  faulty : (h : ResponseHead) (rest : List ℕ) → FinalHead o h rest → framing_of q h ≡ F.Faulty
      → LacksAnswer q o

-- a response that can be passed on
pub record IsGood (q : RequestHead) (h : ResponseHead) : Type 0 where
  pub status : is_refused_status h.status ≡ false
  pub framing : framing_of q h ≢ F.Faulty

-- a body that ends with its bytes (RFC 9112, section 6.3)
abbrev pub EndsWith : Framing → List ℕ → List ℕ → Type 0
EndsWith framing bytes body =
    BodyOf framing bytes body B.Ended ⊎ ((framing ≡ F.UntilClose) × BodyOf framing bytes body B.Unfinished)

-- nothing is sent to a client that ends before its first byte
abbrev pub silent_block : Block
silent_block = record { request = []; end = E.Whole; head = []; mode = M.Plain; body = [] }

-- the head that the origin gets, with these fields
abbrev pub request_with : RequestHead → List ℕ → List ℕ → List Field → List ℕ
request_with q target host fields = origin_text q.method (is_absolute q.target) q.minor target host fields

module _ (setup : Setup) where
  -- the head that the origin gets: the fields that are sent on, after the header rules of requests
  abbrev pub request_text : RequestHead → List ℕ → List ℕ → List ℕ
  request_text q target host =
      request_with q target host (ruled S.Request setup.plugins.items (forwarded q.fields))

  -- All bytes of a client are a request that goes to its origin: it passes the check, no deny line denies its
  -- host, and there is an origin.
  pub record GoesToOrigin (dialed : Bool) (c : List ℕ) (q : RequestHead) (target host : List ℕ)
      : Type 0 where
    pub some : c ≢ []
    pub rest : List ℕ
    pub reads : HasRequest c q rest
    pub passes : check q ≡ Ok (target, host)
    pub allowed : is_denied setup.plugins.items (plugin_host host) ≡ false
    pub has_origin : dialed ≡ true

  -- THE REQUEST that the origin gets, by all bytes of its client: the head of one that goes to it, and else
  -- nothing.
  pub data IsRequestOf (dialed : Bool) (c request : List ℕ) : Type 0 where
    sent_on : (q : RequestHead) (target host : List ℕ) → GoesToOrigin dialed c q target host
        → request ≡ request_text q target host → IsRequestOf dialed c request
    kept_back : ((q : RequestHead) (target host : List ℕ) → GoesToOrigin dialed c q target host → ⊥)
        → request ≡ [] → IsRequestOf dialed c request

  abbrev pub own_text : OwnStatus → List ℕ
  own_text status = own_head status (ruled S.Response setup.plugins.items (own_field ∷ []))

  -- the block whose answer is the proxy's own
  abbrev pub own_block : List ℕ → OwnStatus → Bool → Block
  own_block request status to_head =
      record {
        request = request;
        end = E.Whole;
        head = own_text status;
        mode = M.Plain;
        body = own_sent to_head status;
      }

  abbrev pub lines_for : ResponseHead → List TransformLine
  lines_for h = acting setup.transforms.items h.status h.fields

  -- the lines that the body goes through
  abbrev pub body_lines : RequestHead → ResponseHead → List TransformLine
  body_lines q h = if_body (framing_of q h) (lines_for h)

  -- some line acts on the response
  abbrev pub is_acted_on : ResponseHead → Bool
  is_acted_on h = list_any (acts_on h.status h.fields) setup.transforms.items

  -- how the body of a response is framed for the client
  abbrev pub framing_for : RequestHead → ResponseHead → ClientFraming
  framing_for q h =
      client_framing (framing_of q h) h.status (length_told h.fields) (is_acted_on h) (reads_chunks q)

  -- the client's head of a response that is passed on, with these fields
  abbrev pub relayed_with : RequestHead → ResponseHead → List Field → List ℕ
  relayed_with q h fields = client_text h.status h.reason fields (Some h.minor) (framing_for q h)

  -- the client's head: the fields that are sent on, after the header rules of responses
  abbrev pub relayed_head : RequestHead → ResponseHead → List ℕ
  relayed_head q h = relayed_with q h (ruled S.Response setup.plugins.items (forwarded h.fields))

  -- the block whose answer is the origin's
  abbrev pub relayed_block : List ℕ → RequestHead → ResponseHead → TxnEnd → List ℕ → Block
  relayed_block request q h end body =
      record {
        request = request;
        end = end;
        head = relayed_head q h;
        mode = mode_of (framing_for q h);
        body = body;
      }

  -- By the body: it has ended; or one of its lines finishes early on the body of a front of the bytes, whatever
  -- follows that; or it is cut, or bad, and no line finishes early on it.
  pub data BodySays (request : List ℕ) (q : RequestHead) (h : ResponseHead) (rest : List ℕ)
      (b : Block) : Type 0 where
    ended : (body : List ℕ) → EndsWith (framing_of q h) rest body
        → b ≡ relayed_block request q h E.Whole (compose_lines (body_lines q h) body)
        → BodySays request q h rest b
    early : (front more read : List ℕ) (state : BodyState) → rest ≡ front ++ more
        → BodyOf (framing_of q h) front read state → is_early (body_lines q h) read ≡ true
        → b ≡ relayed_block request q h E.Whole (compose_lines (body_lines q h) read)
        → BodySays request q h rest b
    cut : (body : List ℕ) → IsCutShort (framing_of q h) rest body → is_early (body_lines q h) body ≡ false
        → b ≡ relayed_block request q h E.OriginCut [] → BodySays request q h rest b
    bad : (body : List ℕ) → BodyOf (framing_of q h) rest body B.Bad → is_early (body_lines q h) body ≡ false
        → b ≡ relayed_block request q h E.OriginBad [] → BodySays request q h rest b

  -- By the origin's head: no answer can be made of it, or it is passed on.
  pub data AnswerSays (request : List ℕ) (q : RequestHead) (o : List ℕ) (b : Block) : Type 0 where
    lacking : LacksAnswer q o → b ≡ own_block request O.BadGateway (asks_head q) → AnswerSays request q o b
    passed_on : (h : ResponseHead) (rest : List ℕ) → FinalHead o h rest → IsGood q h
        → BodySays request q h rest b → AnswerSays request q o b

  module _ (dialed : Bool) (refuses : Type 0) (o : List ℕ) where
    -- By the origin: there is none, or its link refuses the upload of this client, or it is sent the request.
    abbrev pub DialSays : Bool → List ℕ → RequestHead → Block → Type 0
    DialSays false request q b = b ≡ own_block [] O.BadGateway (asks_head q)
    DialSays true request q b =
        (refuses × (b ≡ own_block request O.BadRequest (asks_head q)))
        ⊎ ((refuses → ⊥) × AnswerSays request q o b)

    -- By the deny lines.
    abbrev pub DenySays : Bool → List ℕ → RequestHead → Block → Type 0
    DenySays true request q b = b ≡ own_block [] O.Forbidden (asks_head q)
    DenySays false request q b = DialSays dialed request q b

    -- By the request's check: it is refused, or it passes with a target and a host.
    abbrev pub VerdictSays : Result (List ℕ × List ℕ) ℕ → RequestHead → Block → Type 0
    VerdictSays (Err status) q b = b ≡ own_block [] (own_refusal status) (asks_head q)
    VerdictSays (Ok (target, host)) q b =
        DenySays (is_denied setup.plugins.items (plugin_host host)) (request_text q target host) q b

    -- THE BLOCK of all client bytes c and all origin bytes o, each followed by its end. The first case that
    -- applies decides: the client gave nothing, or no head, or a request.
    pub data IsBlock (c : List ℕ) (b : Block) : Type 0 where
      silent : c ≡ [] → b ≡ silent_block → IsBlock c b
      no_head : c ≢ [] → LacksRequest c → b ≡ own_block [] O.BadRequest false → IsBlock c b
      asked : c ≢ [] → (q : RequestHead) (rest : List ℕ) → HasRequest c q rest → VerdictSays (check q) q b
          → IsBlock c b

-- a setup, an origin that was dialed or not and that refuses or not, and all bytes of both sides have at most
-- one block
abbrev pub HasOneBlock : Type 0
HasOneBlock =
    (setup : Setup) (dialed refuses : Bool) (o c : List ℕ) (a b : Block)
    → IsBlock setup dialed (refuses ≡ true) o c a → IsBlock setup dialed (refuses ≡ true) o c b → a ≡ b

-- A line that finishes early on the body of a front of the bytes does so on the body of them all, if they have
-- one, and the block is that of all: it does not matter which front is taken.
abbrev pub EarlyIsOfAll : Type 0
EarlyIsOfAll =
    (setup : Setup) (request : List ℕ) (q : RequestHead) (h : ResponseHead) (front more read body : List ℕ)
    (s t : BodyState)
    → BodyOf (framing_of q h) front read s → is_early (body_lines setup q h) read ≡ true
    → BodyOf (framing_of q h) (front ++ more) body t
    → (is_early (body_lines setup q h) body ≡ true)
    × (relayed_block setup request q h E.Whole (compose_lines (body_lines setup q h) read)
    ≡ relayed_block setup request q h E.Whole (compose_lines (body_lines setup q h) body))

-- all bytes of a client say at most one request
abbrev pub HasOneRequest : Type 0
HasOneRequest =
    (setup : Setup) (dialed : Bool) (c x y : List ℕ)
    → IsRequestOf setup dialed c x → IsRequestOf setup dialed c y → x ≡ y

-- the request of the block of all bytes is the one that those of the client say
abbrev pub BlocksHaveRequest : Type 0
BlocksHaveRequest =
    (setup : Setup) (dialed refuses : Bool) (o c : List ℕ) (b : Block)
    → IsBlock setup dialed (refuses ≡ true) o c b → IsRequestOf setup dialed c b.request
