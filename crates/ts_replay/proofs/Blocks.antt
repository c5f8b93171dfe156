-- What every block is like: its request is one, header rules included, or there is none, and then the origin's
-- bytes make no difference; only a whole answer has a body; and the head of an answer says how its body is sent.
use Rattle.std.proofs.Common.{◌≡◌, ◌≢◌, ◌∙◌, ◌⊎◌, ℕ, ◌<◌, List, [], ◌∷◌, length, Bool, true, false, Result}
use Rattle.std.proofs.Common.{Ok, Err, None, Some, arith, codes, inl, inr, map, refl, sym, ap, subst}
use Rattle.ts_config.specs.declared.fields.Side.TheVariants as S
use Rattle.ts_config.specs.declared.setup.Setup.{Setup}
use Rattle.ts_hooks.specs.declared.txn_end.TxnEnd.TheVariants as E
use Rattle.ts_block.specs.Block.{AnswerSays, BodySays, DenySays, DialSays, IsBlock, VerdictSays, asked, bad}
use Rattle.ts_block.specs.Block.{cut, early, ended, framing_for, lacking, no_head, own_block, own_text}
use Rattle.ts_block.specs.Block.{passed_on, relayed_head, request_text, silent, silent_block}
use Rattle.ts_block.specs.Heads.{FinalHead}
use Rattle.ts_block.specs.Own.{code_of, own_body, own_field, own_reason, own_refusal}
use Rattle.ts_block.specs.Relayed.{asks_head, mode_of}
use Rattle.ts_block.specs.Rules.{ruled}
use Rattle.ts_block.specs.Sent.{HasPlainRules}
use Rattle.ts_block.specs.declared.block.Block.{Block}
use Rattle.ts_block.specs.declared.own_answer.OwnStatus.{OwnStatus}
use Rattle.ts_block.specs.declared.own_answer.OwnStatus.TheVariants as O
use Rattle.ts_tap.specs.SentBody.{IsSentHead, SaysMode}
use Rattle.ts_tap.proofs.PrintedHeads.{printed_heads}
use Rattle.ts_wire.specs.Check.{check}
use Rattle.ts_wire.specs.FieldList.{members_named}
use Rattle.ts_wire.specs.Forward.{forwarded}
use Rattle.ts_wire.specs.Heads.{kept_field}
use Rattle.ts_wire.specs.Limits.{word_limit}
use Rattle.ts_wire.specs.OneHead.{IsReadRequest, SendsResponse}
use Rattle.ts_wire.specs.Printed.{client_text}
use Rattle.ts_wire.specs.declared.fields.Field.{Field}
use Rattle.ts_wire.specs.declared.frames.Mode.TheVariants as M
use Rattle.ts_wire.specs.declared.heads.RequestHead.{RequestHead}
use Rattle.ts_wire.specs.declared.heads.ResponseHead.{ResponseHead}
use Rattle.ts_wire.specs.declared.printed.ClientFraming.{ClientFraming}
use Rattle.ts_wire.specs.declared.printed.ClientFraming.TheVariants as C
use Rattle.ts_wire.proofs.SentBlank.{response_ends}
use Rattle.ts_block.proofs.SentOnce.{answer_stays_one, request_stays_one, response_stays_one, was_answered}
use Rattle.ts_block.proofs.SentOnce.{was_read}
use Rattle.ts_replay.proofs.SentHead.{IsOneSent, IsSentIf, ends_some, sent_ends, valid_small}

-- ---- what a head says of its body

-- the length that a response tells is a number that a word holds
sized_small : (status n : ℕ) (text : List ℕ) → SendsResponse status (C.Sized n) text → n < word_limit
sized_small status n text sends =
    let few = valid_small (members_named (codes "content-length") (map kept_field sends.head.fields)) n
    sends.length in
    omega (arith, few)

-- the head of a response that is passed on says how its body is sent
framing_says : (status minor : ℕ) (reason : List ℕ) (fields : List Field) (framing : ClientFraming)
    → SendsResponse status framing (client_text status reason fields (Some minor) framing)
    → SaysMode (mode_of framing) (client_text status reason fields (Some minor) framing)
framing_says status minor reason fields C.Nothing sends =
    printed_heads.relayed status minor reason fields C.Nothing refl
framing_says status minor reason fields (C.Sized n) sends =
    printed_heads.sized status n reason fields (Some minor)
    (sized_small status n (client_text status reason fields (Some minor) (C.Sized n)) sends)
framing_says status minor reason fields C.Chunked sends =
    printed_heads.in_chunks status reason fields (Some minor)
framing_says status minor reason fields C.Close sends =
    printed_heads.relayed status minor reason fields C.Close refl

-- nothing is sent, or the head says how the body is sent
abbrev pub HeadSays : Block → Type 0
HeadSays b = (b ≡ silent_block) ⊎ IsSentHead b.mode b.head

module _ (setup : Setup) (plain : HasPlainRules setup) where
  own_says : (status : OwnStatus) → IsSentHead M.Plain (own_text setup status)
  own_says status =
      let fields = ruled S.Response setup.plugins.items (own_field ∷ []) in
      let sends = answer_stays_one setup plain status in
      record {
        ends = response_ends (code_of status) (C.Sized (length (own_body status))) (own_text setup status)
            sends;
        says = printed_heads.sized (code_of status) (length (own_body status)) (own_reason status) fields None
            (sized_small (code_of status) (length (own_body status)) (own_text setup status) sends);
      }

  relayed_says : (q : RequestHead) (o : List ℕ) (h : ResponseHead) (rest : List ℕ) → FinalHead o h rest
      → IsSentHead (mode_of (framing_for setup q h)) (relayed_head setup q h)
  relayed_says q o h rest final =
      let fields = ruled S.Response setup.plugins.items (forwarded h.fields) in
      let sends = response_stays_one setup plain q h (was_answered final.from h rest final.reads) in
      record {
        ends = response_ends h.status (framing_for setup q h) (relayed_head setup q h) sends;
        says = framing_says h.status h.minor h.reason fields (framing_for setup q h) sends;
      }

-- ---- what every block is like

pub record IsShaped (b : Block) : Type 0 where
  pub request : IsSentIf b.request
  pub short : b.end ≢ E.Whole → b.body ≡ []
  pub said : HeadSays b

-- one that ended whole
whole_shaped : (b made : Block) → b ≡ made → IsSentIf made.request → made.end ≡ E.Whole → HeadSays made
    → IsShaped b
whole_shaped b made is ends whole said = subst IsShaped (sym is)
    (record { request = ends; short = λ other. absurd (other whole); said = said })

-- one with no body
short_shaped : (b made : Block) → b ≡ made → IsSentIf made.request → made.body ≡ [] → HeadSays made
    → IsShaped b
short_shaped b made is ends none said = subst IsShaped (sym is)
    (record { request = ends; short = λ other. none; said = said })

module _ (setup : Setup) (plain : HasPlainRules setup) where
  -- the request that an origin is sent is one
  pub request_sent : (q : RequestHead) (target host : List ℕ) → IsReadRequest q → check q ≡ Ok (target, host)
      → IsOneSent (request_text setup q target host)
  request_sent q target host read passes =
      (q.method, target, host, request_stays_one setup plain q target host read passes)

  -- ---- case by case

  -- an answer of the proxy's own
  own_shaped : (b : Block) (request : List ℕ) (status : OwnStatus) (to_head : Bool) → IsSentIf request
      → b ≡ own_block setup request status to_head → IsShaped b
  own_shaped b request status to_head ends is =
      whole_shaped b (own_block setup request status to_head) is ends refl (inr (own_says setup plain status))

  body_shaped : (request : List ℕ) (q : RequestHead) (o : List ℕ) (h : ResponseHead) (rest : List ℕ)
      (b : Block) → IsSentIf request → FinalHead o h rest → BodySays setup request q h rest b → IsShaped b
  body_shaped request q o h rest b ends final (ended body over is) =
      whole_shaped b _ is ends refl (inr (relayed_says setup plain q o h rest final))
  body_shaped request q o h rest b ends final (early front more read state text part soon is) =
      whole_shaped b _ is ends refl (inr (relayed_says setup plain q o h rest final))
  body_shaped request q o h rest b ends final (cut body short late is) =
      short_shaped b _ is ends refl (inr (relayed_says setup plain q o h rest final))
  body_shaped request q o h rest b ends final (bad body wrong late is) =
      short_shaped b _ is ends refl (inr (relayed_says setup plain q o h rest final))

  answer_shaped : (request : List ℕ) (q : RequestHead) (o : List ℕ) (b : Block) → IsSentIf request
      → AnswerSays setup request q o b → IsShaped b
  answer_shaped request q o b ends (lacking l is) =
      own_shaped b request O.BadGateway (asks_head q) ends is
  answer_shaped request q o b ends (passed_on h rest final good says) =
      body_shaped request q o h rest b ends final says

  module _ (dialed : Bool) (refuses : Type 0) (o : List ℕ) where
    dial_shaped : (d : Bool) (request : List ℕ) (q : RequestHead) (b : Block) → IsSentIf request
        → DialSays setup dialed refuses o d request q b → IsShaped b
    dial_shaped false request q b ends is = own_shaped b [] O.BadGateway (asks_head q) (inl refl) is
    dial_shaped true request q b ends (inl (r, is)) =
        own_shaped b request O.BadRequest (asks_head q) ends is
    dial_shaped true request q b ends (inr (free, says)) = answer_shaped request q o b ends says

    deny_shaped : (d : Bool) (request : List ℕ) (q : RequestHead) (b : Block) → IsSentIf request
        → DenySays setup dialed refuses o d request q b → IsShaped b
    deny_shaped true request q b ends is = own_shaped b [] O.Forbidden (asks_head q) (inl refl) is
    deny_shaped false request q b ends says = dial_shaped dialed request q b ends says

    verdict_shaped : (r : Result (List ℕ × List ℕ) ℕ) (q : RequestHead) (b : Block) → IsReadRequest q
        → check q ≡ r → VerdictSays setup dialed refuses o r q b → IsShaped b
    verdict_shaped (Err status) q b read is says =
        own_shaped b [] (own_refusal status) (asks_head q) (inl refl) says
    verdict_shaped (Ok (target, host)) q b read is says =
        deny_shaped _ (request_text setup q target host) q b
        (inr (request_sent q target host read is)) says

    -- every block
    pub block_shaped : (c : List ℕ) (b : Block) → IsBlock setup dialed refuses o c b → IsShaped b
    block_shaped c b (silent e is) = whole_shaped b silent_block is (inl refl) refl (inl refl)
    block_shaped c b (no_head n l is) = own_shaped b [] O.BadRequest false (inl refl) is
    block_shaped c b (asked n q rest has says) = verdict_shaped _ q b (was_read c q rest has) refl says

  -- ---- one without a request

  -- an answer of the origin's has its request
  body_request : (request : List ℕ) (q : RequestHead) (h : ResponseHead) (rest : List ℕ) (b : Block)
      → BodySays setup request q h rest b → b.request ≡ request
  body_request request q h rest b (ended body over is) = ap (λ (x : Block). x.request) is
  body_request request q h rest b (early front more read state text part soon is) =
      ap (λ (x : Block). x.request) is
  body_request request q h rest b (cut body short late is) = ap (λ (x : Block). x.request) is
  body_request request q h rest b (bad body wrong late is) = ap (λ (x : Block). x.request) is

  answer_request : (request : List ℕ) (q : RequestHead) (o : List ℕ) (b : Block)
      → AnswerSays setup request q o b → b.request ≡ request
  answer_request request q o b (lacking l is) = ap (λ (x : Block). x.request) is
  answer_request request q o b (passed_on h rest final good says) = body_request request q h rest b says

  -- so whatever the origin gives, a block without one is the same
  module _ (dialed : Bool) (refuses : Type 0) (o other : List ℕ) where
    dial_unasked : (d : Bool) (request : List ℕ) (q : RequestHead) (b : Block) → IsOneSent request
        → b.request ≡ [] → DialSays setup dialed refuses o d request q b
        → DialSays setup dialed refuses other d request q b
    dial_unasked false request q b one none is = is
    dial_unasked true request q b one none (inl (r, is)) = inl (r, is)
    dial_unasked true request q b one none (inr (free, says)) =
        absurd (ends_some request (sent_ends request one) (sym (answer_request request q o b says) ∙ none))

    deny_unasked : (d : Bool) (request : List ℕ) (q : RequestHead) (b : Block) → IsOneSent request
        → b.request ≡ [] → DenySays setup dialed refuses o d request q b
        → DenySays setup dialed refuses other d request q b
    deny_unasked true request q b one none is = is
    deny_unasked false request q b one none says = dial_unasked dialed request q b one none says

    verdict_unasked : (r : Result (List ℕ × List ℕ) ℕ) (q : RequestHead) (b : Block) → IsReadRequest q
        → check q ≡ r → b.request ≡ [] → VerdictSays setup dialed refuses o r q b
        → VerdictSays setup dialed refuses other r q b
    verdict_unasked (Err status) q b read is none says = says
    verdict_unasked (Ok (target, host)) q b read is none says =
        deny_unasked _ (request_text setup q target host) q b (request_sent q target host read is) none says

    pub unasked : (c : List ℕ) (b : Block) → b.request ≡ [] → IsBlock setup dialed refuses o c b
        → IsBlock setup dialed refuses other c b
    unasked c b none (silent e is) = silent e is
    unasked c b none (no_head n l is) = no_head n l is
    unasked c b none (asked n q rest has says) =
        asked n q rest has (verdict_unasked (check q) q b (was_read c q rest has) refl none says)
