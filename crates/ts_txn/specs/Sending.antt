-- What a transaction sends, header rules included, where both links tell: one request to its origin, and then
-- one response to its client (RFC 9112, sections 2 to 7).
use Rattle.std.specs.Prelude.{◌≡◌, ◌≢◌, ◌++◌, ℕ, ◌≤◌, List, [], length, Bool, true, All}
use Rattle.std.specs.Arc.{arc_value}
use Rattle.ts_config.specs.declared.setup.Setup.{Setup}
use Rattle.ts_link.specs.Link.{all_of}
use Rattle.ts_link.specs.declared.link.Link as link
use Rattle.ts_upstream.specs.declared.upstream.Upstream as upstream
use Rattle.ts_wire.specs.Frames.{IsPiece, cut_body, frames}
use Rattle.ts_wire.specs.Framing.{has_no_body}
use Rattle.ts_wire.specs.declared.frames.Mode.{Mode}
use Rattle.ts_wire.specs.declared.heads.RequestHead.{RequestHead}
use Rattle.ts_wire.specs.declared.printed.ClientFraming.{ClientFraming}
use Rattle.ts_wire.specs.declared.printed.ClientFraming.TheVariants as C
use Rattle.ts_block.specs.Block.{IsRequestOf}
use Rattle.ts_block.specs.Heads.{HasRequest}
use Rattle.ts_block.specs.Relayed.{asks_head}
use Rattle.ts_block.specs.Sent.{IsOneResponse, IsClientRequest}
use Rattle.ts_phases.specs.Facts.{Quiet, TookExactly}
use Rattle.ts_phases.specs.Holding.{IfTold}
use Rattle.ts_phases.specs.View.{HasFailed, LinkSide, OriginRefuses, View, view_of}
use Rattle.ts_txn.specs.declared.txn.Txn.{Txn}

-- What the origin's link took, with what waits for it, is nothing, or the one request that the client's bytes
-- begin with, and what the upload wrote behind it, once all of the request was taken.
pub data TakesOneRequest (client : List ℕ) (origin : LinkSide) : Type 0 where
  nothing : origin.look.taken ≡ [] → origin.outbox ≡ [] → TakesOneRequest client origin
  request : (text : List ℕ) → IsClientRequest client text
      → origin.look.taken ++ origin.outbox ≡ text ++ origin.look.carried
      → (origin.outbox ≢ [] → origin.look.carried ≡ []) → TakesOneRequest client origin

-- The pieces are of the body that a head of this status says, in the answer to the client's request: none is
-- empty, together they are not longer than the length that is told, and to a HEAD request, or with a status
-- that has no body, there are none (RFC 9112, section 6.3).
pub record IsBodyOf (client : List ℕ) (status : ℕ) (said : ClientFraming) (pieces : List (List ℕ))
    : Type 0 where
  pub each : All IsPiece pieces
  pub within : (n : ℕ) → said ≡ C.Sized n → length (cut_body pieces) ≤ n
  pub none : (q : RequestHead) (rest : List ℕ) → HasRequest client q rest
      → has_no_body status (asks_head q) ≡ true → pieces ≡ []

-- What the client's link took, with what waits for it, is nothing, or the head of one response and pieces of
-- its body, framed as that head says.
pub data TakesOneResponse (client : LinkSide) (mode : Mode) : Type 0 where
  nothing : client.look.taken ≡ [] → client.outbox ≡ [] → TakesOneResponse client mode
  response : (head : List ℕ) (pieces : List (List ℕ)) (fin : Bool) → (answer : IsOneResponse mode head)
      → IsBodyOf (all_of client.look) answer.status answer.framing pieces
      → client.look.taken ++ client.outbox ≡ head ++ frames mode pieces fin → TakesOneResponse client mode

pub record LinksTakeOnce (v : View) : Type 0 where
  pub request : TakesOneRequest (all_of v.client.look) v.origin
  pub response : TakesOneResponse v.client v.sent.mode

-- the same of a transaction whose links tell
abbrev pub TxnSendsOnce : {C O Q : Type 0} → link.Ghosts C → link.Ghosts O → Txn C O Q → Type 0
TxnSendsOnce client origin t = IfTold client.tells origin.tells (LinksTakeOnce (view_of client origin t.core))

-- The request that the client's bytes say stands at the origin: its link took it whole, with what the upload
-- wrote behind it, of which nothing is left, unless it is refused; and nothing waits for that link.
pub record RequestStands (setup : Setup) (refuses : Type 0) (v : View) : Type 0 where
  pub request : List ℕ
  pub is_request : IsRequestOf setup v.dialed (all_of v.client.look) request
  pub took : TookExactly refuses request v.origin

-- Nothing was queued for the client, or the origin's link failed while the transaction held it; or else, once
-- a head was queued, the request stands at the origin, also where the client's link takes no more.
pub data SendsRequestFirst (setup : Setup) (refuses : Type 0) (v : View) : Type 0 where
  quiet : Quiet v.client v.sent → SendsRequestFirst setup refuses v
  failed : HasFailed v.origin → SendsRequestFirst setup refuses v
  stands : RequestStands setup refuses v → SendsRequestFirst setup refuses v

-- so it is with a transaction whose links tell
abbrev pub TxnSendsRequestFirst : {C O Q : Type 0} → link.Ghosts C → link.Ghosts O → upstream.Ghosts O C
    → Txn C O Q → Type 0
TxnSendsRequestFirst client origin both t = IfTold client.tells origin.tells
    (SendsRequestFirst (arc_value t.core.setup) (OriginRefuses client both t.core)
    (view_of client origin t.core))
