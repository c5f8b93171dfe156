-- What answers the head that stands at an origin: the first line for its host, or the origin itself; and where
-- no head stands there, it does not matter.
use Rattle.std.proofs.Common.{◌≡◌, ◌∙◌, ◌⊎◌, ℕ, List, [], ◌++◌, Option, Some, None, false, true, inl, inr, sym}
use Rattle.std.proofs.Common.{ap, subst}
use Rattle.std.proofs.lemmas.Option.{same_Some}
use Rattle.ts_block.specs.Block.{IsBlock}
use Rattle.ts_block.specs.Sent.{HasPlainRules}
use Rattle.ts_block.specs.declared.block.Block.{Block}
use Rattle.ts_config.specs.declared.setup.InterceptLine.{InterceptLine}
use Rattle.ts_config.specs.declared.setup.Setup.{Setup}
use Rattle.ts_config.specs.declared.setup.TransformLine.{TransformLine}
use Rattle.ts_intercept.specs.Answered.{Answered}
use Rattle.ts_intercept.specs.Answered as answered
use Rattle.ts_intercept.specs.Deciding.{HasHead}
use Rattle.ts_intercept.specs.Seen.{lines_in, seen}
use Rattle.ts_intercept.specs.Served.{line_for}
use Rattle.ts_intercept.specs.declared.choice.Choice.{Choice}
use Rattle.ts_link.specs.Link.{Look, all_of}
use Rattle.ts_replay.specs.AtOrigin.{StandsAt, answer_by, answer_to}
use Rattle.ts_replay.specs.AtOrigin as there
use Rattle.ts_replay.specs.Exchanged.{HasTaken}
use Rattle.ts_replay.specs.Exchanged as exchanged
use Rattle.ts_replay.specs.declared.at_origin.AtOrigin.{AtOrigin}
use Rattle.ts_replay.proofs.Blocks.{unasked}
use Rattle.ts_replay.proofs.SentHead.{IsSentIf, ends_some, framed_ends}
use Rattle.ts_request.specs.Sent.{sent_head}
use Rattle.ts_tap.proofs.SentBodies.{blank_there, one_head}
use Rattle.ts_wire.specs.Blank.{LacksBlank}
use Rattle.ts_wire.specs.declared.frames.Mode.{Mode}

-- ---- the head there

-- a whole head that some bytes begin with stands at the origin that took them
head_there : (kept head : List ℕ) (mode : Option Mode) (at : AtOrigin) → HasTaken kept mode at
    → HasHead kept head → at.request ≡ head
head_there kept head mode at (exchanged.no_head lacks is) begins =
    absurd (blank_there head begins.rest kept begins.ends begins.text_is lacks)
head_there kept head mode at (exchanged.head behind ends text stands) begins =
    (one_head at.request head behind begins.rest ends begins.ends (sym text ∙ begins.text_is)).0

-- and where no head is whole, none stands there
none_whole : (kept : List ℕ) (mode : Option Mode) (at : AtOrigin) → HasTaken kept mode at → LacksBlank kept
    → at.request ≡ []
none_whole kept mode at (exchanged.no_head also is) lacks = ap (λ (a : AtOrigin). a.request) is
none_whole kept mode at (exchanged.head behind ends text stands) lacks =
    absurd (blank_there at.request behind kept ends text lacks)

-- where none stands there, none was sent
pub none_sent : (lines : List TransformLine) (client request : List ℕ) (at : AtOrigin)
    → StandsAt lines client request at → IsSentIf request → at.request ≡ [] → request ≡ []
none_sent lines client request at stands (inl none) empty = none
none_sent lines client request at (there.nothing none is) (inr one) empty = none
none_sent lines client request at (there.plain lacks is) (inr one) empty =
    sym (ap (λ (a : AtOrigin). a.request) is) ∙ empty
none_sent lines client request at (there.carried h framing rest work some has accepts on is) (inr one) empty =
    absurd (ends_some (sent_head framing lines request) (framed_ends h framing lines request has.framed one)
    (sym (ap (λ (a : AtOrigin). a.request) is) ∙ empty))
none_sent lines client request at (there.refused h framing rest some has refuses is) (inr one) empty =
    absurd (ends_some (sent_head framing lines request) (framed_ends h framing lines request has.framed one)
    (sym (ap (λ (a : AtOrigin). a.request) is) ∙ empty))

-- ---- what answers it

-- what this line serves, or without one all that the origin gives
by_line : (lines : List InterceptLine) (head request gives : List ℕ) (found : Option InterceptLine)
    → line_for lines head ≡ found → request ≡ head
    → answer_to lines request gives ≡ answer_by found head gives
by_line lines head request gives found is same =
    ap (λ h. answer_to lines h gives) same ∙ ap (λ l. answer_by l head gives) is

-- these bytes are the answer to the head, if there is one
abbrev pub AnswersHead : List InterceptLine → List ℕ → List ℕ → List ℕ → Type 0
AnswersHead lines head gives all = (head ≡ []) ⊎ (all ≡ answer_to lines head gives)

-- of a link that chooses, whose origin is there, and gives or may still give all of these bytes
module _ {O : Type 0} (look : O → Look) (c : Choice O) (o : O) (gives kept : List ℕ) (mode : Option Mode)
    (at : AtOrigin) (is_there : c.origin ≡ Some o) (whole : all_of (look o) ≡ gives)
    (took : (seen look c).taken ≡ kept) (has : HasTaken kept mode at) (on_time : c.early ≡ false) where
  -- a whole head that was taken is the one that stands there
  head_is : (head : List ℕ) → HasHead (seen look c).taken head → at.request ≡ head
  head_is head begins = head_there kept head mode at has (subst (λ t. HasHead t head) took begins)

  pub answer_is : Answered look c → AnswersHead (lines_in c) at.request gives (all_of (seen look c))
  answer_is (answered.nobody lacks given same early) =
      inl (none_whole kept mode at has (subst LacksBlank took lacks))
  answer_is (answered.itself serves same early) =
      inr (serves.answer_is ∙ sym (by_line (lines_in c) serves.head at.request gives (Some serves.line)
      serves.found (head_is serves.head serves.begins)))
  answer_is (answered.origin p is on other) =
      let none = other on_time in
      let all : all_of (seen look c) ≡ all_of (look p) = λ i. on.given i ++ on.left i in
      let same : p ≡ o = same_Some p o (sym is ∙ is_there) in
      inr (all ∙ ap (λ x. all_of (look x)) same ∙ whole
      ∙ sym (by_line (lines_in c) none.head at.request gives None none.none (head_is none.head none.begins)))
  answer_is (answered.ended none all other) = absurd (let wrong : None ≡ Some o = sym none ∙ is_there in cc)

-- ---- the block of it

-- where the link's bytes are the answer to the head, their block is that of the answer
pub answered_block : (setup : Setup) → HasPlainRules setup → (refused : Type 0)
    (c all gives head : List ℕ) (b : Block) → AnswersHead setup.intercepts.items head gives all
    → (head ≡ [] → b.request ≡ []) → IsBlock setup true refused all c b
    → IsBlock setup true refused (answer_to setup.intercepts.items head gives) c b
answered_block setup plain refused c all gives head b (inl none) empty says =
    unasked setup plain true refused all (answer_to setup.intercepts.items head gives) c b (empty none) says
answered_block setup plain refused c all gives head b (inr is) empty says =
    subst (λ o. IsBlock setup true refused o c b) is says
