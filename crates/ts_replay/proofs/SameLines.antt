-- A block, and the heads of one, depend on nothing of a setup but its lines.
use Rattle.std.proofs.Common.{◌≡◌, ℕ, List, ◌∷◌, [], Bool, true, false, Some, Result, Ok, Err, ap, subst}
use Rattle.std.proofs.Common.{sym, ◌∙◌}
use Rattle.std.proofs.Common.{inl, inr}
use Rattle.std.specs.List.{list_any}
use Rattle.ts_config.specs.Bodies.{compose_lines, is_early}
use Rattle.ts_config.specs.declared.fields.PluginLine.{PluginLine}
use Rattle.ts_config.specs.declared.fields.Side.TheVariants as S
use Rattle.ts_config.specs.declared.setup.Setup.{Setup}
use Rattle.ts_config.specs.declared.setup.TransformLine.{TransformLine}
use Rattle.ts_hooks.specs.declared.txn_end.TxnEnd.{TxnEnd}
use Rattle.ts_hooks.specs.declared.txn_end.TxnEnd.TheVariants as E
use Rattle.ts_block.specs.Acting.{acting, acts_on}
use Rattle.ts_block.specs.Block.{AnswerSays, BodySays, DenySays, DialSays, IsBlock, VerdictSays, asked, bad}
use Rattle.ts_block.specs.Block.{body_lines, cut, early, ended, lacking, no_head, own_block, passed_on}
use Rattle.ts_block.specs.Block.{relayed_block, request_text, silent}
use Rattle.ts_block.specs.Own.{own_field, own_head, own_sent}
use Rattle.ts_block.specs.Relayed.{client_framing, framing_of, if_body, length_told, mode_of, reads_chunks}
use Rattle.ts_block.specs.Rules.{is_denied, ruled}
use Rattle.ts_block.specs.declared.block.Block.{Block}
use Rattle.ts_phases.specs.Facts.{Goes}
use Rattle.ts_phases.specs.declared.phase.Request.{Request}
use Rattle.ts_replay.specs.Heads.{SendsHeads}
use Rattle.ts_replay.specs.Heads as heads
use Rattle.ts_block.specs.declared.own_answer.OwnStatus.{OwnStatus}
use Rattle.ts_block.specs.declared.own_answer.OwnStatus.TheVariants as O
use Rattle.ts_wire.specs.Check.{check, is_absolute, plugin_host}
use Rattle.ts_wire.specs.Forward.{forwarded}
use Rattle.ts_wire.specs.Printed.{client_text, origin_text}
use Rattle.ts_wire.specs.declared.frames.Mode.TheVariants as M
use Rattle.ts_wire.specs.declared.heads.RequestHead.{RequestHead}
use Rattle.ts_wire.specs.declared.heads.ResponseHead.{ResponseHead}

-- the block whose answer is the origin's, by the lines alone
abbrev relayed_by : List ℕ → RequestHead → ResponseHead → TxnEnd → List ℕ → List TransformLine
    → List PluginLine → Block
relayed_by request q h end body ls ps =
    let framing = client_framing (framing_of q h) h.status (length_told h.fields)
    (list_any (acts_on h.status h.fields) ls) (reads_chunks q) in
    record {
      request = request;
      end = end;
      head = client_text h.status h.reason (ruled S.Response ps (forwarded h.fields)) (Some h.minor) framing;
      mode = mode_of framing;
      body = body;
    }

module _ (s t : Setup) (lines : s.transforms.items ≡ t.transforms.items)
    (plugins : s.plugins.items ≡ t.plugins.items) where
  -- ---- part by part

  own_same : (request : List ℕ) (status : OwnStatus) (to_head : Bool)
      → own_block s request status to_head ≡ own_block t request status to_head
  own_same request status to_head =
      ap (λ (ps : List PluginLine). record {
        request = request;
        end = E.Whole;
        head = own_head status
            (ruled S.Response ps (own_field ∷ []));
        mode = M.Plain;
        body = own_sent to_head status;
      }) plugins

  relayed_same : (request : List ℕ) (q : RequestHead) (h : ResponseHead) (end : TxnEnd) (body : List ℕ)
      → relayed_block s request q h end body ≡ relayed_block t request q h end body
  relayed_same request q h end body =
      ap (λ ls. relayed_by request q h end body ls s.plugins.items) lines ∙ ap
      (λ ps. relayed_by request q h end body t.transforms.items ps) plugins

  composed_same : (q : RequestHead) (h : ResponseHead) (body : List ℕ)
      → compose_lines (body_lines s q h) body ≡ compose_lines (body_lines t q h) body
  composed_same q h body = ap (λ ls. compose_lines (if_body (framing_of q h) (acting ls h.status h.fields))
      body) lines

  early_same : (q : RequestHead) (h : ResponseHead) (body : List ℕ)
      → is_early (body_lines s q h) body ≡ is_early (body_lines t q h) body
  early_same q h body = ap (λ ls. is_early (if_body (framing_of q h) (acting ls h.status h.fields)) body)
      lines

  request_same : (q : RequestHead) (target host : List ℕ)
      → request_text s q target host ≡ request_text t q target host
  request_same q target host =
      ap (λ ps. origin_text q.method (is_absolute q.target) q.minor target host
      (ruled S.Request ps (forwarded q.fields))) plugins

  -- ---- the heads

  goes_same : (c : List ℕ) (q : Request) → Goes s c q true → Goes t c q true
  goes_same c q goes = record {
    knows = goes.knows;
    allowed = subst (λ ps. is_denied ps (plugin_host q.host) ≡ false) plugins goes.allowed;
    has_origin = goes.has_origin;
  }

  -- ---- case by case

  body_same : (request : List ℕ) (q : RequestHead) (h : ResponseHead) (rest : List ℕ) (b : Block)
      → BodySays s request q h rest b → BodySays t request q h rest b
  body_same request q h rest b (ended body ends is) =
      ended body ends (is ∙ relayed_same request q h E.Whole (compose_lines (body_lines s q h) body) ∙ ap
      (λ z. relayed_block t request q h E.Whole z) (composed_same q h body))
  body_same request q h rest b (early front more read state text part soon is) =
      early front more read state text part (sym (early_same q h read) ∙ soon)
      (is ∙ relayed_same request q h E.Whole (compose_lines (body_lines s q h) read) ∙ ap
      (λ z. relayed_block t request q h E.Whole z) (composed_same q h read))
  body_same request q h rest b (cut body ends late is) = cut body ends (sym (early_same q h body) ∙ late)
      (is ∙ relayed_same request q h E.OriginCut [])
  body_same request q h rest b (bad body ends late is) = bad body ends (sym (early_same q h body) ∙ late)
      (is ∙ relayed_same request q h E.OriginBad [])

  answer_same : (request : List ℕ) (q : RequestHead) (o : List ℕ) (b : Block) → AnswerSays s request q o b
      → AnswerSays t request q o b
  answer_same request q o b (lacking lacks is) = lacking lacks (is ∙ own_same request _ _)
  answer_same request q o b (passed_on h rest final good says) = passed_on h rest final good
      (body_same request q h rest b says)

  module _ (dialed : Bool) (refuses : Type 0) (o : List ℕ) where
    dial_same : (d : Bool) (request : List ℕ) (q : RequestHead) (b : Block)
        → DialSays s dialed refuses o d request q b → DialSays t dialed refuses o d request q b
    dial_same false request q b is = is ∙ own_same [] _ _
    dial_same true request q b (inl (refused, is)) = inl (refused, is ∙ own_same request _ _)
    dial_same true request q b (inr (free, says)) = inr (free, answer_same request q o b says)

    deny_same : (d : Bool) (request : List ℕ) (q : RequestHead) (b : Block)
        → DenySays s dialed refuses o d request q b → DenySays t dialed refuses o d request q b
    deny_same true request q b is = is ∙ own_same [] _ _
    deny_same false request q b says = dial_same dialed request q b says

    verdict_same : (r : Result (List ℕ × List ℕ) ℕ) (q : RequestHead) (b : Block)
        → VerdictSays s dialed refuses o r q b → VerdictSays t dialed refuses o r q b
    verdict_same (Err status) q b is = is ∙ own_same [] _ _
    verdict_same (Ok (target, host)) q b says =
        subst (λ request. DenySays t dialed refuses o (is_denied t.plugins.items (plugin_host host)) request q
        b) (request_same q target host)
        (subst (λ ps. DenySays t dialed refuses o (is_denied ps (plugin_host host))
        (request_text s q target host) q b) plugins
        (deny_same (is_denied s.plugins.items (plugin_host host)) (request_text s q target host) q b says))

    pub block_same : (c : List ℕ) (b : Block) → IsBlock s dialed refuses o c b
        → IsBlock t dialed refuses o c b
    block_same c b (silent none is) = silent none is
    block_same c b (no_head some lacks is) = no_head some lacks (is ∙ own_same [] O.BadRequest false)
    block_same c b (asked some q rest has says) = asked some q rest has (verdict_same (check q) q b says)

  -- the heads that a transaction sends
  pub heads_same : (refused : Type 0) (c o request head : List ℕ) → SendsHeads s refused c o request head
      → SendsHeads t refused c o request head
  heads_same refused c o request head (heads.decided b says is be) =
      heads.decided b (block_same true refused o c b says) is be
  heads_same refused c o request head (heads.passed_on q h rest goes accepts final good is be) =
      heads.passed_on q h rest (goes_same c q goes) accepts final good
      (is ∙ request_same q.head q.target q.host)
      (be ∙ ap (λ (b : Block). b.head) (relayed_same request q.head h E.Whole []))
