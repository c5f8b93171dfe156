-- From what holds of a transaction that has ended, and whose client leaves, to the heads that are shown.
use Rattle.std.proofs.Common.{◌≡◌, ◌≢◌, ◌⊎◌, ℕ, ◌+◌, ◌<◌, ◌≤◌, List, [], ◌++◌, length, take, Bool, true}
use Rattle.std.proofs.Common.{false}
use Rattle.std.proofs.Common.{Option, Some, None, Result, Ok, Err, IfOk, inl, inr, refl, sym, ap, subst, ◌∙◌}
use Rattle.std.proofs.Common.{arith, length-append}
use Rattle.std.specs.Prelude.{IsSomeAnd, is_some, min}
use Rattle.std.specs.Option.{option_map}
use Rattle.std.proofs.lemmas.List.{append-nil, take_all, take_at, take_min, take-append-le}
use Rattle.std.proofs.lemmas.Bool.{cases_lt}
use Rattle.std.proofs.lemmas.Option.{same_Some}
use Rattle.ts_block.specs.Block.{IsBlock, own_block, relayed_head, request_text}
use Rattle.ts_block.specs.Heads.{FinalHead}
use Rattle.ts_block.specs.Own.{own_sent}
use Rattle.ts_block.specs.declared.block.Block.{Block}
use Rattle.ts_block.proofs.SentOnce.{was_read}
use Rattle.ts_config.specs.declared.setup.Setup.{Setup}
use Rattle.ts_hooks.specs.declared.txn_end.TxnEnd.{TxnEnd}
use Rattle.ts_hooks.specs.declared.txn_end.TxnEnd.TheVariants as E
use Rattle.ts_layers.specs.declared.layers.PlainExchange.{PlainExchange}
use Rattle.ts_link.specs.Link.{all_of}
use Rattle.ts_link.specs.MemLink.{LinkState}
use Rattle.ts_phases.specs.Ends.{EndFact, Relayed, SomeText, own, quiet, relayed}
use Rattle.ts_phases.specs.Facts.{Goes, HasOwnCause, HasOwnText, TookExactly, decided, fault}
use Rattle.ts_phases.specs.View.{HasFailed}
use Rattle.ts_phases.specs.declared.phase.OwnAnswer.{OwnAnswer}
use Rattle.ts_phases.proofs.Responding.{final_more}
use Rattle.ts_phases.proofs.Uploading.{took_request}
use Rattle.ts_record.specs.Links.{GoesAsRecorded}
use Rattle.ts_record.specs.Report.{IsReported}
use Rattle.ts_record.specs.declared.report.ReportBlock.{ReportBlock}
use Rattle.ts_replay.specs.AtOrigin.{StandsAt, answer_to}
use Rattle.ts_replay.specs.Exchanged.{LeavesHeads, MayEnd, ShowsEnd}
use Rattle.ts_replay.specs.Heads.{SendsHeads}
use Rattle.ts_replay.specs.Heads as heads
use Rattle.ts_replay.specs.Recorded.{TakesSome}
use Rattle.ts_replay.specs.Reports.{BothSides, IsShownBy, IsShownOf, left_report}
use Rattle.ts_replay.specs.declared.at_origin.AtOrigin.{AtOrigin}
use Rattle.ts_replay.proofs.Answering.{AnswersHead, none_sent}
use Rattle.ts_replay.proofs.Blocks.{request_sent}
use Rattle.ts_replay.proofs.SentHead.{IsOneSent, ends_some, sent_ends}
use Rattle.ts_replay.proofs.Standing.{Refused, StandsEnded, TakesUpTo, takes_up_to, viewed}
use Rattle.ts_replay.proofs.Telling.{Arrived, block_taken, same_block}
use Rattle.ts_request.specs.Upload.{Strips}
use Rattle.ts_wire.specs.Frames.{frames}

-- ---- what a client got of a head

-- Of a text that begins with a head, a client took the first bytes: all, or as many as it takes. Then it has
-- the first so many of the head.
head_before : (taken waits head more : List ℕ) (most : ℕ) → taken ++ waits ≡ head ++ more
    → length taken ≤ most → (waits ≡ []) ⊎ (length taken ≡ most)
    → take (length head) taken ≡ take most head
head_before taken waits head more most text few (inl none) =
    let all : taken ≡ head ++ more = sym (append-nil taken) ∙ ap (λ w. taken ++ w) (sym none) ∙ text in
    let long = length-append head more in
    let same = ap length all in
    ap (take (length head)) all ∙ take_at head more (length head) refl
    ∙ sym (take_all most head (omega (arith, few, same, long)))
head_before taken waits head more most text few (inr full) = by_length (cases_lt most (length head))
  where
    by_length : (most < length head) ⊎ (length head ≤ most) → take (length head) taken ≡ take most head
    by_length (inl short) =
        take_all (length head) taken (omega (arith, full, short))
        ∙ sym (take_at taken waits most full)
        ∙ ap (take most) text
        ∙ take-append-le most head more (omega (arith, short))
    by_length (inr long) =
        sym (take-append-le (length head) taken waits (omega (arith, full, long)))
        ∙ ap (take (length head)) text
        ∙ take_at head more (length head) refl
        ∙ sym (take_all most head long)

-- ---- the heads that were sent

-- what answers a request that was sent is all that its link gave and may still give
answer_there : (setup : Setup) (sides : BothSides) (left : PlainExchange LinkState LinkState) (kept : List ℕ)
    (s : StandsEnded setup sides left kept) (request : List ℕ) → IsOneSent request
    → (a : Arrived setup sides left kept s request)
    → all_of s.origin.look ≡ answer_to setup.intercepts.items a.at.request sides.origin
answer_there setup sides left kept s request one a = by_head a.answers
  where
    by_head : AnswersHead setup.intercepts.items a.at.request sides.origin (all_of s.origin.look)
        → all_of s.origin.look ≡ answer_to setup.intercepts.items a.at.request sides.origin
    by_head (inl none) =
        absurd (ends_some request (sent_ends request one)
        (none_sent setup.requests.items sides.client request a.at a.stands (inr one) none))
    by_head (inr is) = is

-- the heads of a transaction that left this and whose client leaves after so many bytes, and what is at its
-- origin
pub record HasHeadsAt (setup : Setup) (sides : BothSides) (left : PlainExchange LinkState LinkState)
    (kept : List ℕ) (most : ℕ) : Type 0 where
  pub shown : List ℕ
  pub strips : Strips sides.client shown
  pub request : List ℕ
  pub head : List ℕ
  pub at : AtOrigin
  pub stands : StandsAt setup.requests.items sides.client request at
  pub sends : SendsHeads setup (Refused setup sides) shown
      (answer_to setup.intercepts.items at.request sides.origin) request head
  pub leaves : LeavesHeads left kept most at head
  pub may : IsSomeAnd left.parts.end (MayEnd (Some most))

module _ (setup : Setup) (sides : BothSides) (left : PlainExchange LinkState LinkState) (kept : List ℕ)
    (s : StandsEnded setup sides left kept) (most : ℕ) (some : 1 ≤ most)
    (takes : TakesUpTo most left.parts.client) where
  -- the client took as many bytes as it takes where it failed, and else what waits for it is known
  got_head : (head more : List ℕ) → s.client.look.taken ++ s.client.outbox ≡ head ++ more
      → s.sent.head ≡ length head → (s.client.outbox ≡ []) ⊎ HasFailed s.client
      → take left.parts.head left.parts.client.taken ≡ take most head
  got_head head more text long waits =
      ap (λ n. take n left.parts.client.taken) (s.head ∙ long)
      ∙ head_before left.parts.client.taken s.client.outbox head more most
      (ap (λ l. l ++ s.client.outbox) (sym s.took) ∙ text) takes.few (full waits)
    where
      full : (s.client.outbox ≡ []) ⊎ HasFailed s.client
          → (s.client.outbox ≡ []) ⊎ (length left.parts.client.taken ≡ most)
      full (inl none) = inl none
      full (inr failed) = inr (takes.all (s.failed failed))

  may_so : (end : TxnEnd) → s.end ≡ end → IsReported end → IsSomeAnd left.parts.end (MayEnd (Some most))
  may_so end is reported =
      subst (λ e. IsSomeAnd e (MayEnd (Some most))) (sym (s.end_is ∙ ap Some is)) reported

  -- those of its block, where that is known
  of_block : (end : TxnEnd) → s.end ≡ end → IsReported end → (b : Block) (more : List ℕ)
      → IsBlock setup true (Refused setup sides) (all_of s.origin.look) (all_of s.client.look) b
      → TookExactly (Refused setup sides) b.request s.origin
      → s.client.look.taken ++ s.client.outbox ≡ b.head ++ more → s.sent.head ≡ length b.head
      → (s.client.outbox ≡ []) ⊎ HasFailed s.client → HasHeadsAt setup sides left kept most
  of_block end is reported b more says took text long waits =
      let a = block_taken setup sides left kept s b says took in
      record {
        shown = s.shown;
        strips = s.strips;
        request = b.request;
        head = b.head;
        at = a.at;
        stands = a.stands;
        sends = heads.decided b (same_block setup sides left kept s b says a) refl refl;
        leaves = record { taken = a.taken; got = got_head b.head more text long waits };
        may = may_so end is reported;
      }

  -- an own answer that was queued, whose client failed
  of_own : s.end ≡ E.ClientFault → HasFailed s.client → (a : OwnAnswer)
      → HasOwnCause setup (Refused setup sides) (viewed s.client s.origin s.sent) a
      → HasOwnText setup s.client s.sent a → HasHeadsAt setup sides left kept most
  of_own is failed a (decided request says whole took) text =
      of_block E.ClientFault is tt (own_block setup request a.status a.to_head) (own_sent a.to_head a.status)
      says took text.text text.head (inr failed)
  of_own is failed a (fault q goes status to_head end rose lacks) text = absurd (s.never rose)

  -- the heads of a response that was passed on are those of all bytes of the client and what answered
  sent_on : (done fin : Bool) (body : List ℕ)
      → (r : Relayed setup (Refused setup sides) (viewed s.client s.origin s.sent) done fin body)
      → IsOneSent (request_text setup r.q.head r.q.target r.q.host)
      → (a : Arrived setup sides left kept s (request_text setup r.q.head r.q.target r.q.host))
      → SendsHeads setup (Refused setup sides) s.shown
      (answer_to setup.intercepts.items a.at.request sides.origin)
      (request_text setup r.q.head r.q.target r.q.host) (relayed_head setup r.q.head r.h)
  sent_on done fin body r one a =
      let goes : Goes setup s.shown r.q true = subst (λ c. Goes setup c r.q true) s.gives r.served.goes in
      let rest = (r.fed ++ s.origin.inbox) ++ s.origin.look.left in
      let answers = answer_there setup sides left kept s
      (request_text setup r.q.head r.q.target r.q.host) one a in
      let final : FinalHead (answer_to setup.intercepts.items a.at.request sides.origin) r.h rest =
      subst (λ o. FinalHead o r.h rest) answers
      (final_more s.origin.look.given r.h (r.fed ++ s.origin.inbox) s.origin.look.left r.reads) in
      heads.passed_on r.q r.h rest goes r.served.accepts final r.good refl refl

  -- a response that was passed on, whose client failed
  of_relayed : s.end ≡ E.ClientFault → HasFailed s.client → (done fin : Bool) (body : List ℕ)
      → Relayed setup (Refused setup sides) (viewed s.client s.origin s.sent) done fin body
      → HasHeadsAt setup sides left kept most
  of_relayed is failed done fin body r =
      let q = r.q in
      let request = request_text setup q.head q.target q.host in
      let knows = r.served.goes.knows in
      let one = request_sent setup s.plain q.head q.target q.host
      (was_read (all_of s.client.look) q.head knows.rest knows.reads) knows.passes in
      let took = took_request setup (Refused setup sides) q s.origin r.served.carries r.served.no_waits
      (inl r.served.uploaded) in
      let a = s.arrived request (inr one) took in
      record {
        shown = s.shown;
        strips = s.strips;
        request = request;
        head = relayed_head setup q.head r.h;
        at = a.at;
        stands = a.stands;
        sends = sent_on done fin body r one a;
        leaves = record {
          taken = a.taken;
          got = got_head (relayed_head setup q.head r.h) (frames s.sent.mode r.text.pieces fin) r.text.text
              r.text.head_is (inr failed);
        };
        may = may_so E.ClientFault is tt;
      }

  -- whatever it had queued
  of_text : s.end ≡ E.ClientFault → HasFailed s.client
      → SomeText setup (Refused setup sides) (viewed s.client s.origin s.sent)
      → HasHeadsAt setup sides left kept most
  of_text is failed (quiet none) =
      let same : left.parts.client.taken ≡ [] = sym s.took ∙ none.no_taken in
      let all = takes.all (s.failed failed) in
      let long = ap length same in
      absurd (omega (arith, all, long, some))
  of_text is failed (own a cause text) = of_own is failed a cause text
  of_text is failed (relayed done fin body r) = of_relayed is failed done fin body r

  by_end : (end : TxnEnd) → s.end ≡ end → end ≢ E.NoMemory
      → EndFact setup (Refused setup sides) (viewed s.client s.origin s.sent) end
      → HasHeadsAt setup sides left kept most
  by_end E.Whole is other fact =
      let w = fact.by in
      of_block E.Whole is tt w.block (frames s.sent.mode w.text.pieces true) w.has.is_block w.has.took
      w.text.text w.text.head_is (inl w.has.no_waits)
  by_end E.OriginCut is other fact =
      let w = fact.by in
      of_block E.OriginCut is tt w.block (frames s.sent.mode w.text.pieces false) w.has.is_block w.has.took
      w.text.text w.text.head_is (inl w.has.no_waits)
  by_end E.OriginBad is other fact =
      let w = fact.by in
      of_block E.OriginBad is tt w.block (frames s.sent.mode w.text.pieces false) w.has.is_block w.has.took
      w.text.text w.text.head_is (inl w.has.no_waits)
  by_end E.OriginFault is other fact = absurd (s.never fact.by.failed)
  by_end E.ClientFault is other fact = of_text is fact.by fact.any.text
  by_end E.NoMemory is other fact = absurd (other refl)

  -- by the end that it left
  pub heads_at : (end : TxnEnd) → left.parts.end ≡ Some end → end ≢ E.NoMemory
      → HasHeadsAt setup sides left kept most
  heads_at end is other =
      let same : s.end ≡ end = same_Some s.end end (sym s.end_is ∙ is) in
      by_end s.end refl (λ lacks. other (sym same ∙ lacks)) s.fact

-- ---- where the client leaves

-- the transaction that left this is one whose client leaves, and these are its heads
pub record HasLeft (setup : Setup) (sides : BothSides) (left : PlainExchange LinkState LinkState)
    (kept : List ℕ) : Type 0 where
  pub most : ℕ
  pub leaves : sides.leave ≡ Some most
  pub heads : HasHeadsAt setup sides left kept most

-- a side of which it is told how much it still takes leaves
some_leave : (may_take : Option ℕ) (taken : ℕ) (leave : Option ℕ) → is_some may_take ≡ true
    → option_map (λ m. taken + m) may_take ≡ leave → (most : ℕ) × (leave ≡ Some most)
some_leave None taken leave told is = absurd (cc)
some_leave (Some m) taken leave told is = (taken + m, sym is)

-- and one of which it is not told stays
no_leave : (may_take : Option ℕ) (taken : ℕ) (leave : Option ℕ) → is_some may_take ≡ false
    → option_map (λ m. taken + m) may_take ≡ leave → leave ≡ None
no_leave None taken leave told is = sym is
no_leave (Some m) taken leave told is = absurd (cc)

module _ (setup : Setup) (sides : BothSides) (left : PlainExchange LinkState LinkState) (kept : List ℕ)
    (s : StandsEnded setup sides left kept) where
  pub stays_none : is_some left.parts.client.may_take ≡ false → sides.leave ≡ None
  stays_none told =
      no_leave left.parts.client.may_take (length left.parts.client.taken) sides.leave told s.leaves

  pub left_at : GoesAsRecorded left.parts.client → is_some left.parts.client.may_take ≡ true
      → TakesSome sides.leave → (end : TxnEnd) → left.parts.end ≡ Some end → end ≢ E.NoMemory
      → HasLeft setup sides left kept
  left_at goes told some end is other =
      let (most, leaves) = some_leave left.parts.client.may_take (length left.parts.client.taken) sides.leave
      told s.leaves in
      record {
        most = most;
        leaves = leaves;
        heads = heads_at setup sides left kept s most (subst TakesSome leaves some)
            (takes_up_to most left.parts.client goes (s.leaves ∙ leaves)) end is other;
      }

-- ---- what is shown of them

-- what was cut out of what is left is what is shown
module _ {X : Type 0} (setup : Setup) (sides : BothSides) (left : PlainExchange LinkState LinkState)
    (kept : List ℕ) (l : HasLeft setup sides left kept) where
  pub shows_left : (r : Result ReportBlock X) → IfOk r (λ b. b ≡ left_report l.most l.heads.at l.heads.head)
      → IfOk r (IsShownOf setup sides)
  shows_left (Ok b) is =
      subst (λ leave. IsShownBy leave setup sides.client sides.origin b) (sym l.leaves)
      (record {
        shown = l.heads.shown;
        strips = l.heads.strips;
        request = l.heads.request;
        head = l.heads.head;
        at = l.heads.at;
        stands = l.heads.stands;
        sends = l.heads.sends;
        shows = is;
      })
  shows_left (Err e) is = tt

  pub shows_left_end : (r : Result ReportBlock X)
      → IfOk r (λ b. b ≡ left_report l.most l.heads.at l.heads.head)
      → IfOk r (λ b. ShowsEnd sides.leave left.parts.end b.end)
  shows_left_end (Ok b) is =
      subst (λ leave. ShowsEnd leave left.parts.end b.end) (sym l.leaves)
      (l.heads.may, ap (λ (x : ReportBlock). x.end) is)
  shows_left_end (Err e) is = tt

-- a block that is this one part by part is shown
pub left_same : (found at : AtOrigin) (head content : List ℕ) (most : ℕ) (whole : List ℕ) → found ≡ at
    → head ≡ take most whole → content ≡ []
    → ◌≡◌ {A = ReportBlock} (record {
      request = found.request;
      upload = found.upload;
      end = E.ClientFault;
      head = head;
      content = content;
      tap = None;
    }) (left_report most at whole)
left_same found at head content most whole p q r = λ i. record {
  request = (p i).request;
  upload = (p i).upload;
  end = E.ClientFault;
  head = q i;
  content = r i;
  tap = None;
}

-- as much of a head as there is
pub front_within : (taken written : List ℕ) (head shown : ℕ) → written ≡ taken
    → shown ≡ min head (length written) → take shown written ≡ take head taken
front_within taken written head shown is few =
    ap (λ n. take n written) few ∙ take_min head written ∙ ap (take head) is
