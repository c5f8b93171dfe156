-- Transactions under lines have at most one list of blocks, and so a recording has at most one report.
use Rattle.std.proofs.Common.{◌≡◌, ℕ, List, [], ◌∷◌, Option, None, Some, true, sym, ap, subst, refl}
use Rattle.std.proofs.Common.{◌∙◌}
use Rattle.std.specs.Prelude.{option_to_list}
use Rattle.ts_config.specs.Setup.{ConfigLines}
use Rattle.ts_config.specs.declared.setup.Setup.{Setup}
use Rattle.ts_record.specs.Grammar.{Contents, TxnPieces}
use Rattle.ts_record.specs.Report.{report_text}
use Rattle.ts_record.specs.declared.report.ReportBlock.{ReportBlock}
use Rattle.ts_record.proofs.Same.{one_recording}
use Rattle.ts_block.specs.Block.{IsBlock}
use Rattle.ts_block.proofs.BlockRequest.{block_request, request_one}
use Rattle.ts_block.proofs.OneBlock.{one_block}
use Rattle.ts_replay.specs.AtOrigin.{StandsAt, answer_to}
use Rattle.ts_replay.specs.Heads.{SendsHeads}
use Rattle.ts_replay.specs.Reports.{AreBlocksOn, AreShown, HasOneReport, HaveOneList, IsShownBy, IsShownLeft}
use Rattle.ts_replay.specs.Reports.{IsShownWhole, IsTxnShown, in_report, left_report, sides_of}
use Rattle.ts_replay.specs.declared.at_origin.AtOrigin.{AtOrigin}
use Rattle.ts_replay.proofs.Heads.{heads_request, one_heads}
use Rattle.ts_replay.proofs.OneAtOrigin.{one_at_origin}
use Rattle.ts_replay.proofs.SameLines.{block_same, heads_same}
use Rattle.ts_request.specs.Sent.{RefusesUpload}
use Rattle.ts_request.proofs.OneUpload.{one_shown}

-- a setup has at most one tap line
tap_same : (a b : Option ℕ) → option_to_list a ≡ option_to_list b → a ≡ b
tap_same None None is = refl
tap_same None (Some n) is = absurd (let wrong : [] ≡ n ∷ [] = is in cc)
tap_same (Some m) None is = absurd (let wrong : m ∷ [] ≡ [] = is in cc)
tap_same (Some m) (Some n) is = let same : m ∷ [] ≡ n ∷ [] = is in cc

module _ (s t : Setup) (lines : s.transforms.items ≡ t.transforms.items)
    (requests : s.requests.items ≡ t.requests.items) (intercepts : s.intercepts.items ≡ t.intercepts.items)
    (plugins : s.plugins.items ≡ t.plugins.items) (tap : s.tap ≡ t.tap) where
  -- what stands at the origin is one thing
  at_one : (c x y : List ℕ) (a b : AtOrigin) → StandsAt s.requests.items c x a
      → StandsAt t.requests.items c y b → x ≡ y → a ≡ b
  at_one c x y a b stands also same =
      one_at_origin t.requests.items c y a b
      (subst (λ head. StandsAt t.requests.items c head a) same
      (subst (λ ls. StandsAt ls c x a) requests stands)) also

  -- and what answers it is one list of bytes
  answer_one : (o : List ℕ) (x y : AtOrigin) → x ≡ y
      → answer_to s.intercepts.items x.request o ≡ answer_to t.intercepts.items y.request o
  answer_one o x y same =
      ap (λ ls. answer_to ls x.request o) intercepts
      ∙ ap (λ (at : AtOrigin). answer_to t.intercepts.items at.request o) same

  -- what is shown of a transaction whose client stays is one block
  module _ (c o : List ℕ) (a b : ReportBlock) (h : IsShownWhole s c o a) (k : IsShownWhole t c o b) where
    abbrev refused : Type 0
    refused = RefusesUpload t.requests.items c

    abbrev answer : List ℕ
    answer = answer_to t.intercepts.items k.at.request o

    -- the block of the one, under the setup of the other
    says_here : IsBlock t true refused (answer_to s.intercepts.items h.at.request o) k.shown h.block
    says_here =
        let origin = answer_to s.intercepts.items h.at.request o in
        subst (λ l. IsBlock t true refused origin l h.block) (one_shown c h.shown k.shown h.strips k.strips)
        (block_same s t lines plugins true refused origin h.shown h.block
        (subst (λ ls. IsBlock s true (RefusesUpload ls c) origin h.shown h.block) requests h.is_block))

    -- the request is the client's, so that one thing stands at the origin, with one answer
    at_whole : h.at ≡ k.at
    at_whole =
        at_one c h.block.request k.block.request h.at k.at h.stands k.stands
        (request_one t true k.shown h.block.request k.block.request
        (block_request t true refused (answer_to s.intercepts.items h.at.request o) k.shown h.block says_here)
        (block_request t true refused answer k.shown k.block k.is_block))

    block_is : h.block ≡ k.block
    block_is =
        one_block t true refused answer k.shown h.block k.block
        (subst (λ l. IsBlock t true refused l k.shown h.block) (answer_one o h.at k.at at_whole) says_here)
        k.is_block

    whole_one : a ≡ b
    whole_one =
        h.shows
        ∙ ap (λ at. in_report s.tap at h.block) at_whole
        ∙ ap (in_report s.tap k.at) block_is
        ∙ ap (λ most. in_report most k.at k.block) tap
        ∙ sym k.shows

  -- and so it is of one whose client leaves
  module _ (most : ℕ) (c o : List ℕ) (a b : ReportBlock) (h : IsShownLeft s c o most a)
      (k : IsShownLeft t c o most b) where
    abbrev refuses : Type 0
    refuses = RefusesUpload t.requests.items c

    abbrev answers : List ℕ
    answers = answer_to t.intercepts.items k.at.request o

    sends_here : SendsHeads t refuses k.shown (answer_to s.intercepts.items h.at.request o) h.request h.head
    sends_here =
        let origin = answer_to s.intercepts.items h.at.request o in
        subst (λ l. SendsHeads t refuses l origin h.request h.head)
        (one_shown c h.shown k.shown h.strips k.strips)
        (heads_same s t lines plugins refuses h.shown origin h.request h.head
        (subst (λ ls. SendsHeads s (RefusesUpload ls c) h.shown origin h.request h.head) requests h.sends))

    at_left : h.at ≡ k.at
    at_left =
        at_one c h.request k.request h.at k.at h.stands k.stands
        (request_one t true k.shown h.request k.request
        (heads_request t refuses k.shown (answer_to s.intercepts.items h.at.request o) h.request h.head
        sends_here)
        (heads_request t refuses k.shown answers k.request k.head k.sends))

    head_is : h.head ≡ k.head
    head_is =
        (one_heads t refuses k.shown answers h.request k.request h.head k.head
        (subst (λ l. SendsHeads t refuses k.shown l h.request h.head) (answer_one o h.at k.at at_left)
        sends_here) k.sends).1

    left_one : a ≡ b
    left_one =
        h.shows
        ∙ ap (λ at. left_report most at h.head) at_left
        ∙ ap (λ head. left_report most k.at head) head_is
        ∙ sym k.shows

  -- whether its client stays or leaves
  shown_by : (leave : Option ℕ) (c o : List ℕ) (a b : ReportBlock) → IsShownBy leave s c o a
      → IsShownBy leave t c o b → a ≡ b
  shown_by None c o a b h k = whole_one c o a b h k
  shown_by (Some most) c o a b h k = left_one most c o a b h k

  shown_one : (txn : TxnPieces) (a b : ReportBlock) → IsTxnShown s txn a → IsTxnShown t txn b → a ≡ b
  shown_one txn a b h k =
      let sides = sides_of txn in shown_by sides.leave sides.client sides.origin a b h k

  -- and transactions by one list of blocks
  list_one : (txns : List TxnPieces) (xs ys : List ReportBlock) → AreShown s txns xs → AreShown t txns ys
      → xs ≡ ys
  list_one [] [] [] h k = refl
  list_one [] (a ∷ xs) ys h k = absurd h
  list_one [] [] (b ∷ ys) h k = absurd k
  list_one (txn ∷ txns) [] ys h k = absurd h
  list_one (txn ∷ txns) (a ∷ xs) [] h k = absurd k
  list_one (txn ∷ txns) (a ∷ xs) (b ∷ ys) h k = ap (λ l. a ∷ l) (list_one txns xs ys h.1 k.1) ∙ ap
      (λ x. x ∷ ys) (shown_one txn a b h.0 k.0)

pub one_list : HaveOneList
one_list lines txns a b h k =
    let same = h.lines_are ∙ sym k.lines_are in
    list_one h.setup k.setup (ap (λ (l : ConfigLines). l.transforms) same)
    (ap (λ (l : ConfigLines). l.requests) same) (ap (λ (l : ConfigLines). l.intercepts) same)
    (ap (λ (l : ConfigLines). l.plugins) same)
    (tap_same h.setup.tap k.setup.tap (ap (λ (l : ConfigLines). l.taps) same)) txns a b h.each k.each

-- so their report is one
pub one_report : HasOneReport
one_report lines bytes a b h k =
    let same : h.contents ≡ k.contents = one_recording bytes k.contents h.contents k.recording h.recording in
    let blocks = one_list lines k.contents.txns h.blocks k.blocks
    (subst (λ (r : Contents). AreBlocksOn lines r.txns h.blocks) same h.are) k.are in
    h.text_is
    ∙ ap (λ (r : Contents). report_text r.version h.blocks) same
    ∙ ap (report_text k.contents.version) blocks
    ∙ sym k.text_is
