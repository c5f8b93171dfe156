-- From what holds of a transaction that has ended to the block that it came to.
use Rattle.std.proofs.Common.{◌≡◌, ◌≢◌, ◌≤◌, Result, Ok, Err, IfOk, take, drop, ℕ, List, [], ◌++◌, Bool, true}
use Rattle.std.proofs.Common.{false, Option, Some, None, length, refl, sym, ap, subst, ◌∙◌, arith}
use Rattle.std.specs.Prelude.{IsSomeAnd, IsTrue}
use Rattle.std.proofs.lemmas.List.{append-nil, take_at, drop_at}
use Rattle.std.proofs.lemmas.Option.{same_Some}
use Rattle.ts_config.specs.declared.setup.Setup.{Setup}
use Rattle.ts_hooks.specs.declared.txn_end.TxnEnd.{TxnEnd}
use Rattle.ts_hooks.specs.declared.txn_end.TxnEnd.TheVariants as E
use Rattle.ts_exchange.specs.Ends.{Ends}
use Rattle.ts_journal.specs.State.{State}
use Rattle.ts_layers.specs.Layers.{LayeredExchanges, LeavesExchange, StaysOver}
use Rattle.ts_layers.specs.declared.layers.PlainExchange.{PlainExchange}
use Rattle.ts_link.specs.Link.{all_of}
use Rattle.ts_link.specs.MemLink.{LinkState}
use Rattle.ts_record.specs.Links.{GoesAsRecorded}
use Rattle.ts_record.specs.Report.{IsReported}
use Rattle.ts_record.specs.declared.report.ReportBlock.{ReportBlock}
use Rattle.ts_record.specs.declared.report.TapLine.{TapLine}
use Rattle.ts_block.specs.Block.{IsBlock}
use Rattle.ts_phases.specs.Ends.{EndFact, HasBlock, HasText, ShortEnd}
use Rattle.ts_phases.specs.Facts.{TookExactly}
use Rattle.ts_phases.specs.View.{HasFailed}
use Rattle.ts_block.specs.declared.block.Block.{Block}
use Rattle.ts_request.specs.Upload.{Strips}
use Rattle.ts_stock.specs.StockTransform.{stock_transform}
use Rattle.ts_txn.specs.declared.making.TxnParts.{TxnParts}
use Rattle.ts_upstream.specs.InMemory.{memory_link}
use Rattle.ts_wire.specs.Frames.{cut_body, frames}
use Rattle.ts_wire.specs.Limits.{body_limit}
use Rattle.ts_replay.specs.AtOrigin.{StandsAt, answer_to}
use Rattle.ts_replay.specs.Exchanged.{ChoseWell, GotBy, HasAnswered, HasGot, IsLeftBetween, IsRunBetween}
use Rattle.ts_replay.specs.Exchanged.{LeavesBlock}
use Rattle.ts_replay.specs.Exchanged.{MayEnd, ShowsEnd, TapsBody}
use Rattle.ts_replay.specs.Recorded.{Recorded, recorded_origin}
use Rattle.ts_replay.specs.Reports.{BothSides, IsShownBy, IsShownOf, in_report}
use Rattle.ts_replay.specs.Taps.{tap_by}
use Rattle.ts_replay.specs.Unframing.{IsFramed}
use Rattle.ts_replay.specs.declared.at_origin.AtOrigin.{AtOrigin}
use Rattle.ts_replay.proofs.Answering.{answered_block, none_sent}
use Rattle.ts_replay.proofs.Blocks.{HeadSays, block_shaped}
use Rattle.ts_replay.proofs.Standing.{HasArrived, Refused, StandsEnded, no_fault, viewed}
use Rattle.ts_replay.proofs.Tapping.{taps_body}

-- the block of all that is shown of the client and all of what answers this head
abbrev pub IsBlockOf : Setup → BothSides → List ℕ → List ℕ → Block → Type 0
IsBlockOf setup sides head shown b =
    IsBlock setup true (Refused setup sides) (answer_to setup.intercepts.items head sides.origin) shown b

-- the block that a transaction came to which left this and ended so, and what is at its origin
pub record HasBlockAt (setup : Setup) (sides : BothSides) (left : PlainExchange LinkState LinkState)
    (kept : List ℕ) (end : TxnEnd) : Type 0 where
  pub may : MayEnd None end
  pub shown : List ℕ
  pub strips : Strips sides.client shown
  pub block : Block
  pub at : AtOrigin
  pub stands : StandsAt setup.requests.items sides.client block.request at
  pub is_block : IsBlockOf setup sides at.request shown block
  pub leaves : LeavesBlock left kept end setup.tap at block

-- where a body was cut or broke its framing, its block has none
got_short : (end : TxnEnd) (parts : TxnParts LinkState LinkState) (b : Block) (sent : List ℕ) → end ≢ E.Whole
    → b.body ≡ [] → HasGot parts b sent false → GotBy end parts b
got_short E.Whole parts b sent other none got = absurd (other refl)
got_short _ parts b sent other none got = (none, (sent, got))

module _ (setup : Setup) (sides : BothSides) (left : PlainExchange LinkState LinkState) (kept : List ℕ)
    (s : StandsEnded setup sides left kept) where
  -- what arrived of a request
  abbrev pub Arrived : List ℕ → Type 0
  Arrived request = HasArrived setup sides left.upload kept (all_of s.origin.look) request

  -- the block of what its links gave or may still give
  abbrev pub IsOwnBlock : Block → Type 0
  IsOwnBlock b = IsBlock setup true (Refused setup sides) (all_of s.origin.look) (all_of s.client.look) b

  -- what is at the origin, of the request of that block
  pub block_taken : (b : Block) → IsOwnBlock b → TookExactly (Refused setup sides) b.request s.origin
      → Arrived b.request
  block_taken b says took =
      s.arrived b.request (block_shaped setup s.plain true (Refused setup sides) _ _ b says).request took

  -- it is that of all that is shown of the client and all of what answers there
  pub same_block : (b : Block) → IsOwnBlock b → (a : Arrived b.request)
      → IsBlockOf setup sides a.at.request s.shown b
  same_block b says a =
      let sent = (block_shaped setup s.plain true (Refused setup sides) _ _ b says).request in
      answered_block setup s.plain (Refused setup sides) s.shown (all_of s.origin.look) sides.origin
      a.at.request b a.answers
      (none_sent setup.requests.items sides.client b.request a.at a.stands sent)
      (subst (λ l. IsBlock setup true (Refused setup sides) (all_of s.origin.look) l b) s.gives says)

  -- the client took the head, and so much of a body
  got_text : (b : Block) (body : List ℕ) (fin : Bool) → s.client.outbox ≡ []
      → HasText s.client s.sent b.head body fin → HasGot left.parts b body fin
  got_text b body fin none h = record {
    pieces = h.pieces;
    each = h.each;
    text =
        sym s.took ∙ sym (append-nil s.client.look.taken)
        ∙ ap (λ w. s.client.look.taken ++ w) (sym none)
        ∙ h.text ∙ ap (λ m. b.head ++ frames m h.pieces fin) (sym s.mode);
    head = s.head ∙ h.head_is;
    body = h.body_is;
  }

  -- a tap summed up the body of one that ended whole
  tapped_by : (end : TxnEnd) (b : Block) → left.parts.mode ≡ b.mode → HeadSays b → GotBy end left.parts b
      → end ≡ E.Whole → length b.body ≤ body_limit → TapsBody setup.tap left.sum b.body
  tapped_by E.Whole b mode said got whole few =
      taps_body left.parts b mode said few got setup.tap left.sum s.tapped
  tapped_by _ b mode said got whole few = absurd (cc)

  -- a block and what is at the origin
  of_block : (end : TxnEnd) → MayEnd None end → (b : Block)
      → HasBlock setup (Refused setup sides) (viewed s.client s.origin s.sent) end b → GotBy end left.parts b
      → HasBlockAt setup sides left kept end
  of_block end may b has got =
      let a = block_taken b has.is_block has.took in
      let said = (block_shaped setup s.plain true (Refused setup sides) _ _ b has.is_block).said in
      record {
        may = may;
        shown = s.shown;
        strips = s.strips;
        block = b;
        at = a.at;
        stands = a.stands;
        is_block = same_block b has.is_block a;
        leaves = record {
          end_is = has.ends;
          taken = a.taken;
          got = got;
          tapped = tapped_by end b (s.mode ∙ has.mode) said got;
        };
      }

  -- the block of a body that was cut, or that broke its framing
  short_sent : (end : TxnEnd) → MayEnd None end → end ≢ E.Whole
      → ShortEnd setup (Refused setup sides) (viewed s.client s.origin s.sent) end
      → HasBlockAt setup sides left kept end
  short_sent end may other short =
      let shaped = block_shaped setup s.plain true (Refused setup sides) _ _ short.block short.has.is_block in
      let none = shaped.short (λ whole. other (sym short.has.ends ∙ whole)) in
      of_block end may short.block short.has
      (got_short end left.parts short.block short.sent other none
      (got_text short.block short.sent false short.has.no_waits short.text))

  -- one whose client stays, and for which memory did not lack, came to a block
  block_sent : (HasFailed s.client → ⊥) → (end : TxnEnd) → end ≢ E.NoMemory
      → EndFact setup (Refused setup sides) (viewed s.client s.origin s.sent) end
      → HasBlockAt setup sides left kept end
  block_sent sure E.Whole other fact =
      of_block E.Whole tt fact.by.block fact.by.has
      (got_text fact.by.block fact.by.block.body true fact.by.has.no_waits fact.by.text)
  block_sent sure E.OriginCut other fact = short_sent E.OriginCut tt (λ whole. cc) fact.by
  block_sent sure E.OriginBad other fact = short_sent E.OriginBad tt (λ whole. cc) fact.by
  block_sent sure E.OriginFault other fact = absurd (s.never fact.by.failed)
  block_sent sure E.ClientFault other fact = absurd (sure fact.by)
  block_sent sure E.NoMemory other fact = absurd (other refl)

  -- by the end that it left
  pub block_at : GoesAsRecorded left.parts.client → sides.leave ≡ None → (end : TxnEnd)
      → left.parts.end ≡ Some end → end ≢ E.NoMemory → HasBlockAt setup sides left kept end
  block_at goes stays end is other =
      let same : s.end ≡ end = same_Some s.end end (sym s.end_is ∙ is) in
      let none = no_fault left.parts.client goes (s.leaves ∙ stays) in
      subst (HasBlockAt setup sides left kept) same
      (block_sent
      (λ failed. let some = s.failed failed in absurd (omega (arith, none, some)))
      s.end (λ lacks. other (sym same ∙ lacks)) s.fact)

-- what is left of a transaction that was run between two sides
pub left_between : (setup : Setup) (sides : BothSides) (t : Recorded)
    (left : PlainExchange LinkState LinkState) → (run : IsRunBetween setup sides t)
    → LayeredExchanges memory_link memory_link recorded_origin stock_transform run.ends true true run.state left
    → IsLeftBetween setup sides left
left_between setup sides t left run exchanges = record {
  ends = run.ends;
  ends_are = run.ends_are;
  state = run.state;
  idle = run.idle;
  numbers = run.numbers;
  exchanges = exchanges;
}

-- the frames behind the head of a whole answer
pub framed_behind : (left : PlainExchange LinkState LinkState) (kept : List ℕ) (most : Option ℕ)
    (at : AtOrigin) (b : Block) (behind : List ℕ) → behind ≡ drop left.parts.head left.parts.client.taken
    → (h : LeavesBlock left kept E.Whole most at b) → IsFramed left.parts.mode behind h.got.pieces
framed_behind left kept most at b behind is h = record {
  each = h.got.each;
  bytes_are = is ∙ ap (drop left.parts.head) h.got.text ∙ drop_at b.head
      (frames left.parts.mode h.got.pieces true) left.parts.head (sym h.got.head);
}

-- the client took a head of this length first
record HasHead (parts : TxnParts LinkState LinkState) (head : List ℕ) : Type 0 where
  behind : List ℕ
  text : parts.client.taken ≡ head ++ behind
  length_is : parts.head ≡ length head

-- whatever it took of a body
got_head : (parts : TxnParts LinkState LinkState) (b : Block) (sent : List ℕ) (fin : Bool)
    → HasGot parts b sent fin → HasHead parts b.head
got_head parts b sent fin h = record {
  behind = frames parts.mode h.pieces fin;
  text = h.text;
  length_is =
      h.head;
}

-- by the end
head_by : (parts : TxnParts LinkState LinkState) (b : Block) (end : TxnEnd) → GotBy end parts b
    → HasHead parts b.head
head_by parts b E.Whole got = got_head parts b b.body true got
head_by parts b _ got = got_head parts b got.1.0 false got.1.1

-- what it took begins with that head
pub head_front : (left : PlainExchange LinkState LinkState) (kept : List ℕ) (end : TxnEnd) (most : Option ℕ)
    (at : AtOrigin) (b : Block) → LeavesBlock left kept end most at b
    → take left.parts.head left.parts.client.taken ≡ b.head
head_front left kept end most at b h =
    let got = head_by left.parts b end h.got in
    ap (take left.parts.head) got.text ∙ take_at b.head got.behind left.parts.head (sym got.length_is)

-- what was taken out of the frames is the body
pub content_is : (left : PlainExchange LinkState LinkState) (kept : List ℕ) (end : TxnEnd) (most : Option ℕ)
    (at : AtOrigin) (b : Block) (behind content : List ℕ)
    → behind ≡ drop left.parts.head left.parts.client.taken → LeavesBlock left kept end most at b
    → (end ≡ E.Whole → (pieces : List (List ℕ)) → IsFramed left.parts.mode behind pieces → content
    ≡ cut_body pieces) → (end ≢ E.Whole → content ≡ []) → content ≡ b.body
content_is left kept E.Whole most at b behind content is h whole short = whole refl h.got.pieces
    (framed_behind left kept most at b behind is h) ∙ h.got.body
content_is left kept _ most at b behind content is h whole short = short (λ e. cc) ∙ sym h.got.0

-- what a tap counted of it is what is shown of the block's body
pub tap_is : (left : PlainExchange LinkState LinkState) (kept : List ℕ) (end : TxnEnd) (most : Option ℕ)
    (at : AtOrigin) (b : Block) (content : List ℕ) (tap : Option TapLine) → LeavesBlock left kept end most at b
    → content ≡ b.body → (end ≡ E.Whole → length content ≤ body_limit)
    → ((end ≡ E.Whole → TapsBody most left.sum b.body) → tap ≡ tap_by end most b.body)
    → tap ≡ tap_by b.end most b.body
tap_is left kept end most at b content tap h same few shown =
    shown (λ whole. h.tapped whole (subst (λ l. length l ≤ body_limit) same (few whole)))
    ∙ ap (λ e. tap_by e most b.body) (sym h.end_is)

-- a block that is this one part by part is shown
pub block_same : (found : AtOrigin) (end : TxnEnd) (head content : List ℕ) (tap : Option TapLine)
    (most : Option ℕ) (at : AtOrigin) (b : Block) → found ≡ at → end ≡ b.end → head ≡ b.head
    → content ≡ b.body → tap ≡ tap_by b.end most b.body
    → ◌≡◌ {A = ReportBlock} (record {
      request = found.request;
      upload = found.upload;
      end = end;
      head = head;
      content = content;
      tap = tap;
    }) (in_report most at b)
block_same found end head content tap most at b p q r s t = λ i. record {
  request = (p i).request;
  upload = (p i).upload;
  end = q i;
  head = r i;
  content = s i;
  tap = t i;
}

-- the block that was cut out of what is left is the one that is shown
module _ {X : Type 0} (setup : Setup) (sides : BothSides) (left : PlainExchange LinkState LinkState)
    (kept : List ℕ) (end : TxnEnd) (stays : sides.leave ≡ None) (h : HasBlockAt setup sides left kept end)
  where
    pub shows_if : (r : Result ReportBlock X) → IfOk r (λ s. s ≡ in_report setup.tap h.at h.block)
        → IfOk r (IsShownOf setup sides)
    shows_if (Ok s) is =
        subst (λ l. IsShownBy l setup sides.client sides.origin s) (sym stays)
        (record {
          shown = h.shown;
          strips = h.strips;
          block = h.block;
          at = h.at;
          stands = h.stands;
          is_block = h.is_block;
          shows = is;
        })
    shows_if (Err e) is = tt

    -- and so is its end
    pub shows_end : (r : Result ReportBlock X) → left.parts.end ≡ Some end
        → IfOk r (λ s. s ≡ in_report setup.tap h.at h.block)
        → IfOk r (λ s. ShowsEnd sides.leave left.parts.end s.end)
    shows_end (Ok s) ends is =
        let same : end ≡ s.end = sym h.leaves.end_is ∙ sym (ap (λ (x : ReportBlock). x.end) is) in
        subst (λ l. ShowsEnd l left.parts.end s.end) (sym stays)
        (ends ∙ ap Some same, subst (MayEnd None) same h.may)
    shows_end (Err e) ends is = tt

-- the end of the transaction's origin that was taken apart is the one that is left, and has answered in time
pub chose_well : (setup : Setup) (ends : Ends LinkState LinkState) → ends.setup ≡ setup → (t : Recorded)
    (s : State) (left : PlainExchange LinkState LinkState)
    → LeavesExchange memory_link memory_link recorded_origin stock_transform ends true true s t left
    → IsTrue left.settled → ChoseWell setup ends.origin t
chose_well setup ends is t s left h in_time =
    let settled = h.exchanges.settled.0 in_time in
    subst (λ o. IsSomeAnd o (HasAnswered setup ends.origin)) (sym h.exchanges.there ∙ h.apart.origin)
    (record {
      stays = subst (λ (x : Setup). StaysOver x true ends.origin h.exchanges.last) is h.exchanges.stays;
      chosen = h.exchanges.chosen;
      on_time = settled.on_time;
      handed_on = settled.handed_on;
    })

-- so it is wherever a block was made
pub chose_if : {E P Q : Type 0} (r : Result ReportBlock E) → (P → Q) → IfOk r (λ b. P) → IfOk r (λ b. Q)
chose_if (Ok b) on h = on h
chose_if (Err e) on h = tt

-- what holds anyhow
pub if_any : {E P : Type 0} (r : Result ReportBlock E) → P → IfOk r (λ b. P)
if_any (Ok b) h = h
if_any (Err e) h = tt

-- where no client leaves, a report names how a transaction may end
pub may_report : (end : TxnEnd) → MayEnd None end → IsReported end
may_report E.ClientFault may = absurd may
may_report E.Whole may = may
may_report E.OriginCut may = may
may_report E.OriginBad may = may
may_report E.OriginFault may = may
may_report E.NoMemory may = may

-- a report names it
pub ends_if : {X : Type 0} (made : ReportBlock) (r : Result ReportBlock X) → IsReported made.end
    → IfOk r (λ s. s ≡ made) → IfOk r (λ s. IsReported s.end)
ends_if made (Ok s) reported is = subst IsReported (sym (ap (λ (x : ReportBlock). x.end) is)) reported
ends_if made (Err e) reported is = tt

-- what a block says of an end it says of the same end
pub ends_as : {X : Type 0} (r : Result ReportBlock X) (leave : Option ℕ) (end other : Option TxnEnd)
    → end ≡ other → IfOk r (λ b. ShowsEnd leave end b.end) → IfOk r (λ b. ShowsEnd leave other b.end)
ends_as (Ok b) leave end other same shows = subst (λ e. ShowsEnd leave e b.end) same shows
ends_as (Err e) leave end other same shows = tt
