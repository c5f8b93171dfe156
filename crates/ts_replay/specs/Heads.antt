-- The two heads that a transaction sends, whatever becomes of the body behind them (RFC 9112, section 2.1).
use Rattle.std.specs.Prelude.{◌≡◌, List, ℕ, true}
use Rattle.ts_block.specs.Block.{IsBlock, IsGood, relayed_head, request_text}
use Rattle.ts_block.specs.Heads.{FinalHead}
use Rattle.ts_block.specs.declared.block.Block.{Block}
use Rattle.ts_config.specs.declared.setup.Setup.{Setup}
use Rattle.ts_phases.specs.Facts.{Goes}
use Rattle.ts_phases.specs.declared.phase.Request.{Request}
use Rattle.ts_request.specs.Sent.{RefusesUpload}
use Rattle.ts_wire.specs.declared.heads.ResponseHead.{ResponseHead}

-- The head that goes to the origin, and the one that goes to the client, by all bytes that are shown of the
-- client and all of the origin, where the client's upload is refused or not: those of the block, which is
-- known where the proxy answers by itself or the body was read; and where a response is passed on, those
-- that stand before its body is looked at.
pub data SendsHeads (setup : Setup) (refused : Type 0) (shown origin request head : List ℕ) : Type 0 where
  decided : (b : Block) → IsBlock setup true refused origin shown b → request ≡ b.request
      → head ≡ b.head → SendsHeads setup refused shown origin request head
  passed_on : (q : Request) (h : ResponseHead) (rest : List ℕ) → Goes setup shown q true → (refused → ⊥)
      → FinalHead origin h rest → IsGood q.head h → request ≡ request_text setup q.head q.target q.host
      → head ≡ relayed_head setup q.head h → SendsHeads setup refused shown origin request head

-- whatever block all bytes of both sides have, these heads are its own
abbrev pub AreHeadsOfBlock : Type 0
AreHeadsOfBlock =
    (setup : Setup) (client shown origin request head : List ℕ) (b : Block)
    → SendsHeads setup (RefusesUpload setup.requests.items client) shown origin request head
    → IsBlock setup true (RefusesUpload setup.requests.items client) origin shown b
    → (request ≡ b.request) × (head ≡ b.head)
