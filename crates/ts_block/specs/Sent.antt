-- What a transaction sends, header rules included: to its origin one request, and to its client one response,
-- wherever the rules leave alone what the proxy sees to itself (RFC 9112, sections 2 to 6).
use Rattle.std.specs.Prelude.{◌≡◌, ◌⊎◌, ℕ, Bool, true, List, [], All, Ok, length}
use Rattle.ts_config.specs.declared.setup.Setup.{Setup}
use Rattle.ts_config.specs.Rules.{HasPlainRule}
use Rattle.ts_wire.specs.declared.heads.RequestHead.{RequestHead}
use Rattle.ts_wire.specs.declared.heads.ResponseHead.{ResponseHead}
use Rattle.ts_wire.specs.declared.printed.ClientFraming.{ClientFraming}
use Rattle.ts_wire.specs.declared.printed.ClientFraming.TheVariants as C
use Rattle.ts_wire.specs.declared.frames.Mode.{Mode}
use Rattle.ts_wire.specs.Check.{check}
use Rattle.ts_wire.specs.OneHead.{IsReadRequest, IsReadResponse, SendsRequest, SendsResponse}
use Rattle.ts_block.specs.declared.own_answer.OwnStatus.{OwnStatus}
use Rattle.ts_block.specs.declared.block.Block.{Block}
use Rattle.ts_block.specs.Own.{code_of, own_body}
use Rattle.ts_block.specs.Relayed.{mode_of}
use Rattle.ts_block.specs.Heads.{HasRequest}
use Rattle.ts_block.specs.Block.{request_text, own_text, framing_for, relayed_head, IsBlock}

-- no header rule of the setup changes a field that the proxy sees to itself
abbrev pub HasPlainRules : Setup → Type 0
HasPlainRules setup = All HasPlainRule setup.plugins.items

module _ (setup : Setup) where
  -- a request that was read and passed the check goes to the origin as one
  abbrev pub RequestStaysOne : Type 0
  RequestStaysOne = (q : RequestHead) (target host : List ℕ) → IsReadRequest q → check q ≡ Ok (target, host)
      → SendsRequest q.method target host (request_text setup q target host)

  -- an answer of the proxy's own is one response, and tells the length of its body
  abbrev pub AnswerStaysOne : Type 0
  AnswerStaysOne = (status : OwnStatus)
      → SendsResponse (code_of status) (C.Sized (length (own_body status))) (own_text setup status)

  -- a response that was read goes to the client as one, whose body ends as the proxy frames it
  abbrev pub ResponseStaysOne : Type 0
  ResponseStaysOne = (q : RequestHead) (h : ResponseHead) → IsReadResponse h
      → SendsResponse h.status (framing_for setup q h) (relayed_head setup q h)

-- the text is one request: the one that the client's bytes begin with, with the target and for the host that
-- the check of it found
pub record IsClientRequest (client text : List ℕ) : Type 0 where
  pub head : RequestHead
  pub rest : List ℕ
  pub target : List ℕ
  pub host : List ℕ
  pub has : HasRequest client head rest
  pub checked : check head ≡ Ok (target, host)
  pub sends : SendsRequest head.method target host text

-- the text is one response, whose body is written as its head says
pub record IsOneResponse (mode : Mode) (text : List ℕ) : Type 0 where
  pub status : ℕ
  pub framing : ClientFraming
  pub mode_is : mode ≡ mode_of framing
  pub sends : SendsResponse status framing text

-- the origin gets nothing or one request, and the client nothing or one response
pub record SendsOneEach (client : List ℕ) (b : Block) : Type 0 where
  pub request : (b.request ≡ []) ⊎ IsClientRequest client b.request
  pub answer : (b.head ≡ []) ⊎ IsOneResponse b.mode b.head

-- so it is with the block of all bytes of both sides
abbrev pub BlocksSendOneEach : Setup → Type 0
BlocksSendOneEach setup = (dialed refuses : Bool) (o c : List ℕ) (b : Block)
    → IsBlock setup dialed (refuses ≡ true) o c b → SendsOneEach c b
