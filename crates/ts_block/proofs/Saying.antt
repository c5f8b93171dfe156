-- The block case by case, from what each step of the search for it found.
use Rattle.std.proofs.Common.{◌≡◌, ◌≢◌, ℕ, List, [], sym, ap, subst, ◌∙◌, ◌⊎◌, inl, inr, Bool, true, false}
use Rattle.std.proofs.Common.{Some, None, Result, Ok, Err, drop}
use Rattle.std.proofs.lemmas.List.{append-nil}
use Rattle.ts_config.specs.declared.setup.Setup.{Setup}
use Rattle.ts_config.specs.Bodies.{compose_lines, is_early}
use Rattle.ts_hooks.specs.declared.txn_end.TxnEnd.TheVariants as E
use Rattle.ts_wire.specs.declared.heads.RequestHead.{RequestHead}
use Rattle.ts_wire.specs.declared.heads.ResponseHead.{ResponseHead}
use Rattle.ts_wire.specs.declared.framing.Framing.{Framing}
use Rattle.ts_wire.specs.declared.framing.Framing.TheVariants as F
use Rattle.ts_wire.specs.declared.body.BodyState.{BodyState}
use Rattle.ts_wire.specs.declared.body.BodyState.TheVariants as B
use Rattle.ts_wire.specs.Body.{BodyOf}
use Rattle.ts_wire.specs.Check.{check, plugin_host}
use Rattle.ts_block.specs.Rules.{is_denied}
use Rattle.ts_block.specs.Own.{own_refusal}
use Rattle.ts_block.specs.Relayed.{asks_head, framing_of, if_body}
use Rattle.ts_block.specs.Heads.{is_refused_status}
use Rattle.ts_block.specs.Finding.{FindsRequest, FindsFinal, IsOver, IsCut}
use Rattle.ts_block.specs.Block.{no_final, bad_status, faulty, IsGood, EndsWith, own_block, relayed_block}
use Rattle.ts_block.specs.Block.{request_text, lines_for, body_lines, BodySays, ended, early, cut, bad, AnswerSays, lacking}
use Rattle.ts_block.specs.Block.{passed_on, DialSays, DenySays, VerdictSays, IsBlock, no_head, asked}
use Rattle.ts_block.specs.declared.block.Block.{Block}
use Rattle.ts_block.specs.declared.own_answer.OwnStatus.{OwnStatus}
use Rattle.ts_block.specs.declared.own_answer.OwnStatus.TheVariants as O
use Rattle.ts_block.proofs.OneHead.{true_not_false}

-- ---- by the body

as_found : (q : RequestHead) (h : ResponseHead) (rest body : List ℕ) (f : Framing) (state s : BodyState)
    → f ≡ framing_of q h
    → BodyOf f rest body state → state ≡ s → BodyOf (framing_of q h) rest body s
as_found q h rest body f state s is found so =
    subst (λ (x : Framing). BodyOf x rest body s) is (subst (λ (x : BodyState). BodyOf f rest body x) so
    found)

-- what was found early of a body, under the framing of its response
early_as : (setup : Setup) (q : RequestHead) (h : ResponseHead) (body : List ℕ) (f : Framing)
    (part : List ℕ) → part ≡ body → (soon is : Bool) → f ≡ framing_of q h
    → soon ≡ is_early (if_body f (lines_for setup h)) part → soon ≡ is
    → is_early (body_lines setup q h) body ≡ is
early_as setup q h body f part all soon is same says so =
    ap (is_early (body_lines setup q h)) (sym all)
    ∙ ap (λ (x : Framing). is_early (if_body x (lines_for setup h)) part) (sym same) ∙ sym says ∙ so

pub says_bad : (setup : Setup) (request : List ℕ) (q : RequestHead) (h : ResponseHead) (rest body : List ℕ)
    (f : Framing) (state : BodyState) (b : Block)
    → f ≡ framing_of q h → BodyOf f rest body state → state ≡ B.Bad
    → (part : List ℕ) → part ≡ body → (soon : Bool) → soon ≡ is_early (if_body f (lines_for setup h)) part
    → soon ≡ false
    → b ≡ relayed_block setup request q h E.OriginBad [] → BodySays setup request q h rest b
says_bad setup request q h rest body f state b is found so part all soon says not text =
    bad body (as_found q h rest body f state B.Bad is found so)
    (early_as setup q h body f part all soon false is says not) text

pub says_cut : (setup : Setup) (request : List ℕ) (q : RequestHead) (h : ResponseHead) (rest body : List ℕ)
    (f : Framing) (state : BodyState) (b : Block)
    → f ≡ framing_of q h → BodyOf f rest body state → IsCut f state
    → (part : List ℕ) → part ≡ body → (soon : Bool) → soon ≡ is_early (if_body f (lines_for setup h)) part
    → soon ≡ false
    → b ≡ relayed_block setup request q h E.OriginCut [] → BodySays setup request q h rest b
says_cut setup request q h rest body f state b is found (other, so) part all soon says not text =
    cut body (as_found q h rest body f state B.Unfinished is found so, λ e. other (is ∙ e))
    (early_as setup q h body f part all soon false is says not) text

-- all bytes are a front of themselves
pub says_early : (setup : Setup) (request : List ℕ) (q : RequestHead) (h : ResponseHead) (rest body : List ℕ)
    (f : Framing) (state : BodyState) (b : Block)
    → f ≡ framing_of q h → BodyOf f rest body state
    → (part : List ℕ) → part ≡ body → (soon : Bool) → soon ≡ is_early (if_body f (lines_for setup h)) part
    → soon ≡ true
    → b ≡ relayed_block setup request q h E.Whole (compose_lines (body_lines setup q h) body)
    → BodySays setup request q h rest b
says_early setup request q h rest body f state b is found part all soon says so text =
    early rest [] body state (sym (append-nil rest))
    (subst (λ (x : Framing). BodyOf x rest body state) is found)
    (early_as setup q h body f part all soon true is says so) text

over_ends : (q : RequestHead) (h : ResponseHead) (rest body : List ℕ) (f : Framing) (state : BodyState)
    → f ≡ framing_of q h
    → BodyOf f rest body state → IsOver f state → EndsWith (framing_of q h) rest body
over_ends q h rest body f state is found (inl so) = inl (as_found q h rest body f state B.Ended is found so)
over_ends q h rest body f state is found (inr (close, so)) =
    inr (sym is ∙ close, as_found q h rest body f state B.Unfinished is found so)

pub says_ended : (setup : Setup) (request : List ℕ) (q : RequestHead) (h : ResponseHead) (rest body : List ℕ)
    (f : Framing) (state : BodyState) (b : Block)
    → f ≡ framing_of q h → BodyOf f rest body state → IsOver f state
    → b ≡ relayed_block setup request q h E.Whole (compose_lines (body_lines setup q h) body)
    → BodySays setup request q h rest b
says_ended setup request q h rest body f state b is found over text =
    ended body (over_ends q h rest body f state is found over) text

-- ---- by the origin's head

pub says_none : (setup : Setup) (request : List ℕ) (q : RequestHead) (o : List ℕ) (b : Block)
    → FindsFinal o None
    → b ≡ own_block setup request O.BadGateway (asks_head q) → AnswerSays setup request q o b
says_none setup request q o b found text = lacking (no_final found) text

pub says_refused_head : (setup : Setup) (request : List ℕ) (q : RequestHead) (o : List ℕ) (h : ResponseHead)
    (used : ℕ) (b : Block) → FindsFinal o (Some (h, used))
    → (is_refused_status h.status ≡ true) ⊎ (framing_of q h ≡ F.Faulty)
    → b ≡ own_block setup request O.BadGateway (asks_head q) → AnswerSays setup request q o b
says_refused_head setup request q o h used b (final, within) (inl is) text =
    lacking (bad_status h (drop used o) final is) text
says_refused_head setup request q o h used b (final, within) (inr is) text =
    lacking (faulty h (drop used o) final is) text

pub says_passed_on : (setup : Setup) (request : List ℕ) (q : RequestHead) (o : List ℕ) (h : ResponseHead)
    (used : ℕ) (rest : List ℕ) (b : Block)
    → FindsFinal o (Some (h, used)) → rest ≡ drop used o → IsGood q h → BodySays setup request q h rest b
    → AnswerSays setup request q o b
says_passed_on setup request q o h used rest b (final, within) is good says =
    passed_on h (drop used o) final good (subst (λ (r : List ℕ). BodySays setup request q h r b) is says)

-- ---- by the origin, the deny lines and the check

pub says_refused_upload : (setup : Setup) (refuses : Bool) (o request : List ℕ) (q : RequestHead) (b : Block)
    → refuses ≡ true
    → b ≡ own_block setup request O.BadRequest (asks_head q)
    → DialSays setup true (refuses ≡ true) o true request q b
says_refused_upload setup refuses o request q b is text = inl (is, text)

pub says_taken_upload : (setup : Setup) (refuses : Bool) (o request : List ℕ) (q : RequestHead) (b : Block)
    → refuses ≡ false
    → AnswerSays setup request q o b → DialSays setup true (refuses ≡ true) o true request q b
says_taken_upload setup refuses o request q b not says = inr (λ is. true_not_false refuses is not, says)

pub says_dialed : (setup : Setup) (dialed : Bool) (refuses : Type 0) (o request : List ℕ) (q : RequestHead)
    (b : Block) → dialed ≡ true
    → DialSays setup true refuses o true request q b → DialSays setup dialed refuses o dialed request q b
says_dialed setup dialed refuses o request q b is says = subst
    (λ (d : Bool). DialSays setup d refuses o d request q b) (sym is) says

pub says_not_dialed : (setup : Setup) (dialed : Bool) (refuses : Type 0) (o request : List ℕ)
    (q : RequestHead) (b : Block) → dialed ≡ false
    → b ≡ own_block setup [] O.BadGateway (asks_head q) → DialSays setup dialed refuses o dialed request q b
says_not_dialed setup dialed refuses o request q b is text =
    subst (λ (d : Bool). DialSays setup d refuses o d request q b) (sym is) text

denied_so : (setup : Setup) (dialed : Bool) (refuses : Type 0) (o request : List ℕ) (q : RequestHead)
    (b : Block) (d s : Bool) → d ≡ s
    → DenySays setup dialed refuses o s request q b → DenySays setup dialed refuses o d request q b
denied_so setup dialed refuses o request q b d s is says = subst
    (λ (x : Bool). DenySays setup dialed refuses o x request q b) (sym is) says

pub says_denied : (setup : Setup) (dialed : Bool) (refuses : Type 0) (o target host name : List ℕ)
    (q : RequestHead) (b : Block) (denied : Bool)
    → name ≡ plugin_host host → denied ≡ is_denied setup.plugins.items name → denied ≡ true
    → b ≡ own_block setup [] O.Forbidden (asks_head q) → VerdictSays setup dialed refuses o
    (Ok (target, host)) q b
says_denied setup dialed refuses o target host name q b denied is was so text =
    denied_so setup dialed refuses o (request_text setup q target host) q b
    (is_denied setup.plugins.items (plugin_host host)) true
    (ap (is_denied setup.plugins.items) (sym is) ∙ sym was ∙ so) text

pub says_allowed : (setup : Setup) (dialed : Bool) (refuses : Type 0) (o target host name request : List ℕ)
    (q : RequestHead) (b : Block) (denied : Bool)
    → name ≡ plugin_host host → denied ≡ is_denied setup.plugins.items name → denied ≡ false
    → request ≡ request_text setup q target host
    → DialSays setup dialed refuses o dialed request q b → VerdictSays setup dialed refuses o
    (Ok (target, host)) q b
says_allowed setup dialed refuses o target host name request q b denied is was so text says =
    denied_so setup dialed refuses o (request_text setup q target host) q b
    (is_denied setup.plugins.items (plugin_host host)) false
    (ap (is_denied setup.plugins.items) (sym is) ∙ sym was ∙ so)
    (subst (λ (r : List ℕ). DialSays setup dialed refuses o dialed r q b) text says)

-- ---- by the client's bytes

pub says_no_head : (setup : Setup) (dialed : Bool) (refuses : Type 0) (o c : List ℕ) (b : Block) → c ≢ []
    → FindsRequest c None
    → b ≡ own_block setup [] O.BadRequest false → IsBlock setup dialed refuses o c b
says_no_head setup dialed refuses o c b some found text = no_head some found text

pub says_refused : (setup : Setup) (dialed : Bool) (refuses : Type 0) (o c : List ℕ) (q : RequestHead)
    (status : ℕ) (own : OwnStatus) (b : Block) → c ≢ [] → FindsRequest c (Some q)
    → check q ≡ Err status → own ≡ own_refusal status → b ≡ own_block setup [] own (asks_head q)
    → IsBlock setup dialed refuses o c b
says_refused setup dialed refuses o c q status own b some (rest, has) verdict is text =
    asked some q rest has (subst (λ (r : Result (List ℕ × List ℕ) ℕ). VerdictSays setup dialed refuses o r q
    b) (sym verdict)
    (text ∙ ap (λ s. own_block setup [] s (asks_head q)) is))

pub says_passed : (setup : Setup) (dialed : Bool) (refuses : Type 0) (o c target host : List ℕ)
    (q : RequestHead) (b : Block) → c ≢ [] → FindsRequest c (Some q)
    → check q ≡ Ok (target, host) → VerdictSays setup dialed refuses o (Ok (target, host)) q b
    → IsBlock setup dialed refuses o c b
says_passed setup dialed refuses o c target host q b some (rest, has) verdict says =
    asked some q rest has (subst (λ (r : Result (List ℕ × List ℕ) ℕ). VerdictSays setup dialed refuses o r q
    b) (sym verdict) says)

-- what the body says, what the origin's bytes say, and what the client's say
pub ruleset body_says = (says_bad, says_cut, says_early, says_ended)

pub ruleset answer_says = (says_none, says_refused_head, says_passed_on)

pub ruleset head_says = (says_no_head, says_refused, says_passed)
