-- The heads that a transaction sends are those of its block, and all bytes of both sides have at most one
-- pair of them.
use Rattle.std.proofs.Common.{◌≡◌, ◌∙◌, ℕ, List, Result, true, Ok, inl, inr, sym, ap, subst}
use Rattle.ts_block.specs.Block.{AnswerSays, BodySays, DenySays, DialSays, IsBlock, IsGood, IsRequestOf}
use Rattle.ts_block.specs.Block.{LacksAnswer, VerdictSays, asked, bad, bad_status, cut, early, ended, faulty, lacking}
use Rattle.ts_block.specs.Block.{no_final}
use Rattle.ts_block.specs.Block.{no_head, relayed_head, request_text, silent}
use Rattle.ts_block.specs.Block as block
use Rattle.ts_block.specs.Heads.{FinalHead, is_refused_status}
use Rattle.ts_block.specs.Relayed.{framing_of}
use Rattle.ts_block.specs.declared.block.Block.{Block}
use Rattle.ts_block.proofs.BlockRequest.{block_request}
use Rattle.ts_block.proofs.OneBlock.{one_block}
use Rattle.ts_block.proofs.OneHead.{one_final, one_request, true_not_false}
use Rattle.ts_config.specs.declared.setup.Setup.{Setup}
use Rattle.ts_phases.specs.Facts.{Goes}
use Rattle.ts_phases.specs.declared.phase.Request.{Request}
use Rattle.ts_replay.specs.Heads.{AreHeadsOfBlock, SendsHeads, decided, passed_on}
use Rattle.ts_request.specs.Sent.{RefusesUpload}
use Rattle.ts_wire.specs.Check.{check}
use Rattle.ts_wire.specs.declared.framing.Framing.TheVariants as F
use Rattle.ts_wire.specs.declared.heads.RequestHead.{RequestHead}
use Rattle.ts_wire.specs.declared.heads.ResponseHead.{ResponseHead}

-- ---- the heads of a block whose answer is passed on

-- a response that can be passed on is an answer
lacks_good : (q : RequestHead) (o : List ℕ) (h : ResponseHead) (rest : List ℕ) → LacksAnswer q o
    → FinalHead o h rest → IsGood q h → ⊥
lacks_good q o h rest (no_final lacks) final good = lacks h rest final
lacks_good q o h rest (bad_status k s other is) final good =
    let same = one_final o k h s rest other final in
    true_not_false (is_refused_status h.status) (subst (λ (x : ResponseHead). is_refused_status
    x.status ≡ true) same.0 is) good.status
lacks_good q o h rest (faulty k s other is) final good =
    let same = one_final o k h s rest other final in
    good.framing (subst (λ (x : ResponseHead). framing_of q x ≡ F.Faulty) same.0 is)

module _ (setup : Setup) (refused : Type 0) (c o : List ℕ) (b : Block) where
  body_heads : (request : List ℕ) (q : RequestHead) (h : ResponseHead) (rest : List ℕ)
      → BodySays setup request q h rest b → (request ≡ b.request) × (relayed_head setup q h ≡ b.head)
  body_heads request q h rest (ended body over is) =
      (sym (ap (λ (x : Block). x.request) is), sym (ap (λ (x : Block). x.head) is))
  body_heads request q h rest (early front more read state text part soon is) =
      (sym (ap (λ (x : Block). x.request) is), sym (ap (λ (x : Block). x.head) is))
  body_heads request q h rest (cut body short late is) =
      (sym (ap (λ (x : Block). x.request) is), sym (ap (λ (x : Block). x.head) is))
  body_heads request q h rest (bad body broken late is) =
      (sym (ap (λ (x : Block). x.request) is), sym (ap (λ (x : Block). x.head) is))

  module _ (q : Request) (h : ResponseHead) (rest : List ℕ) (goes : Goes setup c q true)
      (accepts : refused → ⊥) (final : FinalHead o h rest) (good : IsGood q.head h) where
    -- the request of the block, and its head
    abbrev HasHeads : List ℕ → Type 0
    HasHeads request = (request ≡ b.request) × (relayed_head setup q.head h ≡ b.head)

    answer_heads : (request : List ℕ) → AnswerSays setup request q.head o b → HasHeads request
    answer_heads request (lacking lacks is) = absurd (lacks_good q.head o h rest lacks final good)
    answer_heads request (block.passed_on k s other fine says) =
        let same = one_final o k h s rest other final in
        subst (λ (x : ResponseHead). (request ≡ b.request) × (relayed_head setup q.head x ≡ b.head)) same.0
        (body_heads request q.head k s says)

    dial_heads : (request : List ℕ) → DialSays setup true refused o true request q.head b → HasHeads request
    dial_heads request (inl (refuses, is)) = absurd (accepts refuses)
    dial_heads request (inr (takes, says)) = answer_heads request says

    block_heads : IsBlock setup true refused o c b → HasHeads (request_text setup q.head q.target q.host)
    block_heads (silent none is) = absurd (goes.knows.some none)
    block_heads (no_head some lacks is) =
        absurd (lacks goes.knows.reads.parsed goes.knows.rest goes.knows.reads.begins)
    block_heads (asked some p s had says) =
        let same = one_request c p q.head s goes.knows.rest had goes.knows.reads in
        let request = request_text setup q.head q.target q.host in
        dial_heads request
        (subst (λ d. DenySays setup true refused o d request q.head b) goes.allowed
        (subst (λ r. VerdictSays setup true refused o r q.head b) goes.knows.passes
        (subst (λ (t : RequestHead). VerdictSays setup true refused o (check t) t b) same.0 says)))

module _ (setup : Setup) (refused : Type 0) (c o : List ℕ) where
  -- whatever it is that is refused
  heads_by : (request head : List ℕ) (b : Block) → SendsHeads setup refused c o request head
      → IsBlock setup true refused o c b → (request ≡ b.request) × (head ≡ b.head)
  heads_by request head b (decided a says is be) has =
      let same = one_block setup true refused o c a b says has in
      (is ∙ ap (λ (x : Block). x.request) same, be ∙ ap (λ (x : Block). x.head) same)
  heads_by request head b (passed_on q h rest goes accepts final good is be) has =
      let heads = block_heads setup refused c o b q h rest goes accepts final good has in
      (is ∙ heads.0, be ∙ heads.1)

pub heads_of_block : AreHeadsOfBlock
heads_of_block setup client shown o request head b sends has =
    heads_by setup (RefusesUpload setup.requests.items client) shown o request head b sends has

-- ---- their request is that of the client's bytes

pub heads_request : (setup : Setup) (refused : Type 0) (c o request head : List ℕ)
    → SendsHeads setup refused c o request head → IsRequestOf setup true c request
heads_request setup refused c o request head (decided b says is be) =
    subst (IsRequestOf setup true c) (sym is) (block_request setup true refused o c b says)
heads_request setup refused c o request head (passed_on q h rest goes accepts final good is be) =
    block.sent_on q.head q.target q.host
    (record {
      some = goes.knows.some;
      rest = goes.knows.rest;
      reads = goes.knows.reads;
      passes = goes.knows.passes;
      allowed = goes.allowed;
      has_origin = goes.has_origin;
    })
    is

-- ---- there is one pair

-- a request that goes to the origin is one
ok_same : (x y : List ℕ × List ℕ) → ◌≡◌ {A = Result (List ℕ × List ℕ) ℕ} (Ok x) (Ok y) → x ≡ y
ok_same x y is = cc

module _ (setup : Setup) (refused : Type 0) (c o : List ℕ) where
  one_going : (q p : Request) → Goes setup c q true → Goes setup c p true → q ≡ p
  one_going q p goes also =
      let same = one_request c q.head p.head goes.knows.rest also.knows.rest goes.knows.reads
      also.knows.reads in
      let both = ok_same (q.target, q.host) (p.target, p.host)
      (sym goes.knows.passes ∙ ap check same.0 ∙ also.knows.passes) in
      let target : q.target ≡ p.target = ap (λ (e : List ℕ × List ℕ). e.0) both in
      let host : q.host ≡ p.host = ap (λ (e : List ℕ × List ℕ). e.1) both in
      λ i. record { head = same.0 i; target = target i; host = host i }

  pub one_heads : (a b x y : List ℕ) → SendsHeads setup refused c o a x → SendsHeads setup refused c o b y
      → (a ≡ b) × (x ≡ y)
  one_heads a b x y (decided block says is be) other =
      let heads = heads_by setup refused c o b y block other says in
      (is ∙ sym heads.0, be ∙ sym heads.1)
  one_heads a b x y (passed_on q h rest goes accepts final good is be) (decided block says same alike) =
      let heads = heads_by setup refused c o a x block (passed_on q h rest goes accepts final good is be)
      says in
      (heads.0 ∙ sym same, heads.1 ∙ sym alike)
  one_heads a b x y (passed_on q h rest goes accepts final good is be)
      (passed_on p k s going also end fine same alike) =
      let request = one_going q p goes going in
      let response = one_final o h k rest s final end in (
        is ∙ ap (λ (r : Request). request_text setup r.head r.target r.host) request ∙ sym same,
        be ∙ ap (λ (r : Request). relayed_head setup r.head h) request
            ∙ ap (λ (r : ResponseHead). relayed_head setup p.head r) (response.0) ∙ sym alike,
      )
