-- The body of the one response that a client gets is no more than its head says: the pieces of an own answer,
-- and those of a response that is passed on.
use Rattle.std.proofs.Common.{◌≡◌, ◌∙◌, ◌⊎◌, inl, inr, ℕ, ◌≤◌, ◌<◌, List, [], ◌∷◌, ◌++◌, length, Bool, true, false}
use Rattle.std.proofs.Common.{cond, All, Option, Some, None, Result, Ok, Err, append-nil, length-append}
use Rattle.std.proofs.Common.{ap, sym, subst, refl, arith}
use Rattle.std.specs.Prelude.{◌||◌}
use Rattle.std.specs.List.{filter, list_any}
use Rattle.std.proofs.lemmas.Bool.{false≢true}
use Rattle.std.proofs.lemmas.List.{length-take}
use Rattle.std.proofs.lemmas.List.Elements.{All-cons, All-head, All-nil}
use Rattle.ts_config.specs.declared.setup.Setup.{Setup}
use Rattle.ts_config.specs.declared.setup.TransformLine.{TransformLine}
use Rattle.ts_link.specs.Link.{all_of}
use Rattle.ts_wire.specs.declared.body.BodyState.{BodyState}
use Rattle.ts_wire.specs.declared.framing.Framing.{Framing}
use Rattle.ts_wire.specs.declared.framing.Framing.TheVariants as F
use Rattle.ts_wire.specs.declared.frames.Mode.TheVariants as M
use Rattle.ts_wire.specs.declared.heads.RequestHead.{RequestHead}
use Rattle.ts_wire.specs.declared.heads.ResponseHead.{ResponseHead}
use Rattle.ts_wire.specs.declared.printed.ClientFraming.TheVariants as C
use Rattle.ts_wire.specs.Body.{BodyOf}
use Rattle.ts_wire.specs.Check.{check}
use Rattle.ts_wire.specs.Frames.{IsPiece, cut_body, frames}
use Rattle.ts_wire.specs.Framing.{coding_named, framing_by, has_no_body, length_named}
use Rattle.ts_wire.specs.Place.{IsFed, Place, state_of}
use Rattle.ts_wire.proofs.PlaceBody.{place_body}
use Rattle.ts_block.specs.declared.block.Block.{Block}
use Rattle.ts_block.specs.declared.own_answer.OwnStatus.{OwnStatus}
use Rattle.ts_block.specs.declared.own_answer.OwnStatus.TheVariants as O
use Rattle.ts_block.specs.Acting.{acts_on}
use Rattle.ts_block.specs.Block.{AnswerSays, lacking, passed_on, BodySays, bad, cut, early, ended, EndsWith}
use Rattle.ts_block.specs.Block.{DenySays, DialSays, VerdictSays, IsBlock, asked, no_head, silent}
use Rattle.ts_block.specs.Block.{body_lines, framing_for, is_acted_on, lines_for, own_block}
use Rattle.ts_block.specs.Heads.{HasRequest}
use Rattle.ts_block.specs.Own.{code_of, own_body, own_refusal, own_sent}
use Rattle.ts_block.specs.Relayed.{asks_head, client_framing, framing_of, if_body, length_told, open_framing, reads_chunks}
use Rattle.ts_block.proofs.OneHead.{one_request}
use Rattle.ts_config.specs.Bodies.{compose_lines, is_early}
use Rattle.ts_phases.specs.Ends.{IsFrontThrough, Relayed}
use Rattle.ts_phases.specs.Facts.{HasOwnCause}
use Rattle.ts_phases.specs.Facts as facts
use Rattle.ts_phases.specs.View.{View}
use Rattle.ts_phases.specs.declared.phase.OwnAnswer.{OwnAnswer}
use Rattle.ts_txn.specs.Sending.{IsBodyOf}

-- ---- what was read of a body

fed_body : (framing other : Framing) (fed read : List ℕ) (place : Place) → framing ≡ other
    → IsFed framing fed read place → BodyOf other (fed ++ []) read (state_of place.phase)
fed_body framing other fed read place is h =
    subst (λ f. BodyOf f (fed ++ []) read (state_of place.phase)) is
    (place_body framing fed read place.held place.phase place.total h.stands h.counted h.sound [] (λ u. refl))

-- it is not longer than the length that was told
read_within : (framing : Framing) (n : ℕ) (fed read : List ℕ) (place : Place) → framing ≡ F.Sized n
    → IsFed framing fed read place → length read ≤ n
read_within framing n fed read place is h =
    let sized = fed_body framing (F.Sized n) fed read place is h in
    omega (arith, ap length sized.0, length-take n (fed ++ []))

-- and where there is no body, it is nothing
read_none : (framing : Framing) (fed read : List ℕ) (place : Place) → framing ≡ F.Nothing
    → IsFed framing fed read place → read ≡ []
read_none framing fed read place is h = (fed_body framing F.Nothing fed read place is h).0

-- what no line acted on is not longer than what was read
front_within : (lines : List TransformLine) (done : Bool) (read sent : List ℕ) → lines ≡ []
    → IsFrontThrough lines done read sent → length sent ≤ length read
front_within lines done read sent none front =
    by_end done (subst (λ ls. IsFrontThrough ls done read sent) none front)
  where
    by_end : (d : Bool) → IsFrontThrough [] d read sent → length sent ≤ length read
    by_end true (more, is) =
        let same : sent ++ more ≡ read = is in
        omega (arith, length-append sent more, ap length same)
    by_end false any = by_more (any [])
      where
        by_more : (more : List ℕ) × (sent ++ more ≡ read ++ []) → length sent ≤ length read
        by_more (more, is) =
            omega (arith, length-append sent more, ap length is, ap length (append-nil read))

-- no piece is empty: a body of no bytes is in no pieces
pieces_none : (pieces : List (List ℕ)) → All IsPiece pieces → length (cut_body pieces) ≤ 0 → pieces ≡ []
pieces_none [] each few = refl
pieces_none (p ∷ ps) each few =
    absurd (omega (arith, (All-head IsPiece p ps each).0, length-append p (cut_body ps), few))

-- ---- how a body is framed for the client

open_not : (chunks : Bool) (n : ℕ) → open_framing chunks ≡ C.Sized n → ⊥
open_not true n is = let wrong : C.Chunked ≡ C.Sized n = is in cc
open_not false n is = let wrong : C.Close ≡ C.Sized n = is in cc

-- a length is told where there is no body, or where no line acts on one of that length
abbrev TellsLength : Framing → ℕ → Bool → Type 0
TellsLength framing n acts = (framing ≡ F.Nothing) ⊎ ((framing ≡ F.Sized n) × (acts ≡ false))

framing_sized : (f : Framing) (status n : ℕ) (told : Option ℕ) (acts chunks : Bool)
    → client_framing f status told acts chunks ≡ C.Sized n → TellsLength f n acts
framing_sized F.Nothing status n told acts chunks is = inl refl
framing_sized (F.Sized m) status n told false chunks is =
    let told_so : C.Sized m ≡ C.Sized n = is in
    let same : m ≡ n = cc in
    inr (ap (λ k. F.Sized k) same, refl)
framing_sized (F.Sized m) status n told true chunks is = absurd (open_not chunks n is)
framing_sized F.Chunked status n told acts chunks is = absurd (open_not chunks n is)
framing_sized F.UntilClose status n told acts chunks is = absurd (open_not chunks n is)
framing_sized F.Faulty status n told acts chunks is =
    absurd (let wrong : C.Nothing ≡ C.Sized n = is in cc)

none_left : (p : TransformLine → Bool) (lines : List TransformLine) → list_any p lines ≡ false
    → filter p lines ≡ []
none_left p [] is = refl
none_left p (l ∷ ls) is = by_test (p l) (none_left p ls) is
  where
    by_test : (t : Bool) → (list_any p ls ≡ false → filter p ls ≡ []) → (t || list_any p ls) ≡ false
        → cond t (l ∷ filter p ls) (filter p ls) ≡ []
    by_test false rest none = rest none
    by_test true rest none = absurd (let wrong : true ≡ false = none in cc)

-- a response to HEAD, or with such a status, is framed as one without a body
no_body : (q : RequestHead) (h : ResponseHead) → has_no_body h.status (asks_head q) ≡ true
    → framing_of q h ≡ F.Nothing
no_body q h is =
    ap (λ b. cond b F.Nothing (framing_by h.minor (coding_named h.fields) (length_named h.fields))) is

-- so it goes through no lines
lines_none : (setup : Setup) (q : RequestHead) (h : ResponseHead) → framing_of q h ≡ F.Nothing
    → body_lines setup q h ≡ []
lines_none setup q h is = ap (λ f. if_body f (lines_for setup h)) is

lines_none_act : (setup : Setup) (q : RequestHead) (h : ResponseHead) → is_acted_on setup h ≡ false
    → body_lines setup q h ≡ []
lines_none_act setup q h none =
    ap (λ ls. if_body (framing_of q h) ls) (none_left (acts_on h.status h.fields) setup.transforms.items none)
    ∙ by_framing (framing_of q h)
  where
    by_framing : (f : Framing) → if_body f [] ≡ []
    by_framing F.Nothing = refl
    by_framing (F.Sized n) = refl
    by_framing F.Chunked = refl
    by_framing F.UntilClose = refl
    by_framing F.Faulty = refl

-- ---- a response that is passed on

module _ (setup : Setup) (refuses : Type 0) (v : View) (done fin : Bool) (sent : List ℕ)
    (r : Relayed setup refuses v done fin sent) where
  sent_none : framing_of r.q.head r.h ≡ F.Nothing → length sent ≤ 0
  sent_none is =
      let few = front_within _ done r.read sent (lines_none setup r.q.head r.h is) r.front in
      omega (arith, few, ap length (read_none _ r.fed r.read r.place is r.is_fed))

  sent_within : (n : ℕ) → TellsLength (framing_of r.q.head r.h) n (is_acted_on setup r.h) → length sent ≤ n
  sent_within n (inl none) = omega (arith, sent_none none)
  sent_within n (inr (sized, none)) =
      let few = front_within _ done r.read sent (lines_none_act setup r.q.head r.h none) r.front in
      omega (arith, few, read_within _ n r.fed r.read r.place sized r.is_fed)

  relayed_within : (n : ℕ) → framing_for setup r.q.head r.h ≡ C.Sized n → length (cut_body r.text.pieces) ≤ n
  relayed_within n is =
      let few = sent_within n (framing_sized (framing_of r.q.head r.h) r.h.status n (length_told r.h.fields)
      (is_acted_on setup r.h) (reads_chunks r.q.head) is) in
      omega (arith, few, ap length r.text.body_is)

  relayed_none : (q : RequestHead) (rest : List ℕ) → HasRequest (all_of v.client.look) q rest
      → has_no_body r.h.status (asks_head q) ≡ true → r.text.pieces ≡ []
  relayed_none q rest has none =
      let knows = r.served.goes.knows in
      let same = (one_request (all_of v.client.look) q r.q.head rest knows.rest has knows.reads).0 in
      let few = sent_none (no_body r.q.head r.h
      (subst (λ x. has_no_body r.h.status (asks_head x) ≡ true) same none)) in
      pieces_none r.text.pieces r.text.each (omega (arith, few, ap length r.text.body_is))

  pub relayed_body : IsBodyOf (all_of v.client.look) r.h.status (framing_for setup r.q.head r.h) r.text.pieces
  relayed_body = record { each = r.text.each; within = relayed_within; none = relayed_none }

-- ---- the block of a HEAD request has no body

module _ (setup : Setup) (q : RequestHead) (to_head : asks_head q ≡ true) where
  own_none : (request : List ℕ) (status : OwnStatus) (b : Block)
      → b ≡ own_block setup request status (asks_head q) → b.body ≡ []
  own_none request status b is = ap (λ (x : Block). x.body) is ∙ ap (λ t. own_sent t status) to_head

  head_framed : (h : ResponseHead) → framing_of q h ≡ F.Nothing
  head_framed h = no_body q h (ap (λ t. has_no_body h.status t) to_head)

  body_none : (h : ResponseHead) (rest body : List ℕ) → EndsWith (framing_of q h) rest body
      → compose_lines (body_lines setup q h) body ≡ []
  body_none h rest body ends =
      ap (λ ls. compose_lines ls body) (lines_none setup q h (head_framed h))
      ∙ by_end (subst (λ f. EndsWith f rest body) (head_framed h) ends)
    where
      by_end : EndsWith F.Nothing rest body → body ≡ []
      by_end (inl h) = h.0
      by_end (inr (up, h)) = h.0

  answer_none : (request o : List ℕ) (b : Block) → AnswerSays setup request q o b → b.body ≡ []
  answer_none request o b (lacking l is) = own_none request O.BadGateway b is
  answer_none request o b (passed_on h rest final good says) = by_body says
    where
      by_body : BodySays setup request q h rest b → b.body ≡ []
      by_body (ended body ends is) = ap (λ (x : Block). x.body) is ∙ body_none h rest body ends
      by_body (early front more read state cuts reads soon is) =
          absurd (false≢true
          (sym (ap (λ ls. is_early ls read) (lines_none setup q h (head_framed h))) ∙ soon))
      by_body (cut body short late is) = ap (λ (x : Block). x.body) is
      by_body (bad body wrong late is) = ap (λ (x : Block). x.body) is

  module _ (dialed : Bool) (refuses : Type 0) (o : List ℕ) where
    dial_none : (d : Bool) (request : List ℕ) (b : Block) → DialSays setup dialed refuses o d request q b
        → b.body ≡ []
    dial_none false request b is = own_none [] O.BadGateway b is
    dial_none true request b (inl (r, is)) = own_none request O.BadRequest b is
    dial_none true request b (inr (free, says)) = answer_none request o b says

    deny_none : (d : Bool) (request : List ℕ) (b : Block) → DenySays setup dialed refuses o d request q b
        → b.body ≡ []
    deny_none true request b is = own_none [] O.Forbidden b is
    deny_none false request b says = dial_none dialed request b says

    verdict_none : (r : Result (List ℕ × List ℕ) ℕ) (b : Block) → VerdictSays setup dialed refuses o r q b
        → b.body ≡ []
    verdict_none (Err status) b is = own_none [] (own_refusal status) b is
    verdict_none (Ok (target, host)) b says = deny_none _ _ b says

    block_none : (c rest : List ℕ) (b : Block) → HasRequest c q rest → IsBlock setup dialed refuses o c b
        → b.body ≡ []
    block_none c rest b has (silent e is) = ap (λ (x : Block). x.body) is
    block_none c rest b has (no_head n lacks is) = absurd (lacks has.parsed rest has.begins)
    block_none c rest b has (asked n p other reads says) =
        verdict_none (check q) b
        (subst (λ x. VerdictSays setup dialed refuses o (check x) x b)
        (one_request c p q other rest reads has).0 says)

-- ---- an answer of the proxy's own

-- the pieces of its body: one, but to a HEAD request none
abbrev pub own_pieces : Bool → OwnStatus → List (List ℕ)
own_pieces true status = []
own_pieces false status = own_body status ∷ []

own_piece : (status : OwnStatus) → IsPiece (own_body status)
own_piece O.BadRequest = (omega arith, omega arith)
own_piece O.Forbidden = (omega arith, omega arith)
own_piece O.NotImplemented = (omega arith, omega arith)
own_piece O.BadGateway = (omega arith, omega arith)

own_each : (to_head : Bool) (status : OwnStatus) → All IsPiece (own_pieces to_head status)
own_each true status = All-nil IsPiece
own_each false status = All-cons IsPiece (own_body status) [] (own_piece status) (All-nil IsPiece)

pub own_framed : (to_head : Bool) (status : OwnStatus)
    → own_sent to_head status ≡ frames M.Plain (own_pieces to_head status) false
own_framed true status = refl
own_framed false status = sym (append-nil (own_body status ++ []) ∙ append-nil (own_body status))

own_within : (to_head : Bool) (status : OwnStatus) (n : ℕ) → C.Sized (length (own_body status)) ≡ C.Sized n
    → length (cut_body (own_pieces to_head status)) ≤ n
own_within true status n is = omega arith
own_within false status n is =
    let same : length (own_body status) ≡ n = cc in
    omega (arith, length-append (own_body status) [], same)

-- its status is one with a body
asks_so : (status : OwnStatus) (to_head : Bool) → has_no_body (code_of status) to_head ≡ true
    → to_head ≡ true
asks_so status true is = refl
asks_so O.BadRequest false is = absurd (let wrong : false ≡ true = is in cc)
asks_so O.Forbidden false is = absurd (let wrong : false ≡ true = is in cc)
asks_so O.NotImplemented false is = absurd (let wrong : false ≡ true = is in cc)
asks_so O.BadGateway false is = absurd (let wrong : false ≡ true = is in cc)

none_sent : (to_head : Bool) (status : OwnStatus) → own_sent to_head status ≡ []
    → own_pieces to_head status ≡ []
none_sent true status is = refl
none_sent false status is = absurd (omega (arith, (own_piece status).0, ap length is))

module _ (setup : Setup) (refuses : Type 0) (v : View) (a : OwnAnswer) where
  own_unsent : HasOwnCause setup refuses v a → (q : RequestHead) (rest : List ℕ)
      → HasRequest (all_of v.client.look) q rest → asks_head q ≡ true → own_sent a.to_head a.status ≡ []
  own_unsent (facts.OwnCause.decided request says whole took) q rest has head =
      block_none setup q head v.dialed refuses (all_of v.origin.look) (all_of v.client.look) rest
      (own_block setup request a.status a.to_head) has says
  own_unsent (facts.OwnCause.fault p goes gateway to_head fault failed lacks) q rest has head =
      let knows = goes.knows in
      let same = (one_request (all_of v.client.look) q p.head rest knows.rest has knows.reads).0 in
      ap (λ t. own_sent t a.status) (to_head ∙ ap asks_head (sym same) ∙ head)

  pub own_answer_body : HasOwnCause setup refuses v a → IsBodyOf (all_of v.client.look) (code_of a.status)
      (C.Sized (length (own_body a.status))) (own_pieces a.to_head a.status)
  own_answer_body cause = record {
    each = own_each a.to_head a.status;
    within = own_within a.to_head a.status;
    none = λ q rest has none.
        none_sent a.to_head a.status (own_unsent cause q rest has (asks_so a.status (asks_head q) none));
  }
