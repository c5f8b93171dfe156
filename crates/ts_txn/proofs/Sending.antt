-- A transaction whose links tell sends one request and one response at most, and the request first, wherever
-- it is on its course.
use Rattle.std.proofs.Common.{◌≡◌, ◌∙◌, ℕ, List, ◌++◌, length, false, ap, inl, refl, sym, subst}
use Rattle.std.specs.Arc.{arc_value}
use Rattle.ts_config.specs.declared.setup.Setup.{Setup}
use Rattle.ts_config.specs.declared.setup.TransformLine.{TransformLine}
use Rattle.ts_journal.specs.declared.entry.Pending.{Pending}
use Rattle.ts_group.specs.declared.action.Named.{Named}
use Rattle.ts_link.specs.Link.{all_of}
use Rattle.ts_link.specs.declared.link.Link as link
use Rattle.ts_upstream.specs.declared.upstream.Upstream as upstream
use Rattle.ts_transform.specs.declared.transform.Transform as transform
use Rattle.ts_wire.specs.Frames.{frames}
use Rattle.ts_wire.specs.declared.printed.ClientFraming.TheVariants as C
use Rattle.ts_block.specs.Block.{framing_for, own_block, own_text, relayed_head, request_text, sent_on}
use Rattle.ts_block.specs.Own.{code_of, own_body}
use Rattle.ts_block.specs.Sent.{HasPlainRules}
use Rattle.ts_block.proofs.BlockRequest.{block_request}
use Rattle.ts_block.proofs.SentOnce.{answer_stays_one, request_stays_one, response_stays_one}
use Rattle.ts_block.proofs.SentOnce.{was_answered, was_read}
use Rattle.ts_phases.specs.Ends.{AnyEnd, SomeText}
use Rattle.ts_phases.specs.Ends as ends
use Rattle.ts_phases.specs.Facts.{HasOwnCause, HasTook, Served}
use Rattle.ts_phases.specs.Facts as facts
use Rattle.ts_phases.specs.View.{OriginRefuses, View, view_of}
use Rattle.ts_phases.specs.declared.phase.OwnAnswer.{OwnAnswer}
use Rattle.ts_phases.specs.declared.phase.Request.{Request}
use Rattle.ts_phases.proofs.Uploading.{took_request}
use Rattle.ts_txn.specs.Sending.{LinksTakeOnce, RequestStands, SendsRequestFirst, TakesOneRequest}
use Rattle.ts_txn.specs.Sending.{TakesOneResponse, TxnSendsOnce, TxnSendsRequestFirst}
use Rattle.ts_txn.specs.Sending as sending
use Rattle.ts_txn.specs.World.{IsSoundTxn}
use Rattle.ts_txn.specs.declared.txn.Txn.{Txn}
use Rattle.ts_txn.proofs.Coursing.{course_any}
use Rattle.ts_txn.proofs.SentBodies.{own_answer_body, own_framed, own_pieces, relayed_body}

module _ (setup : Setup) (plain : HasPlainRules setup) (refuses : Type 0) (v : View) where
  takes_request : HasTook setup v → TakesOneRequest (all_of v.client.look) v.origin
  takes_request (facts.OriginTook.nothing none idle) = sending.TakesOneRequest.nothing none idle
  takes_request (facts.OriginTook.request q goes carries) =
      sending.TakesOneRequest.request (request_text setup q.head q.target q.host)
      (record {
        head = q.head;
        rest = goes.knows.rest;
        target = q.target;
        host = q.host;
        has = goes.knows.reads;
        checked = goes.knows.passes;
        sends = request_stays_one setup plain q.head q.target q.host
            (was_read _ q.head goes.knows.rest goes.knows.reads) goes.knows.passes;
      })
      carries.text carries.behind

  takes_response : SomeText setup refuses v → TakesOneResponse v.client v.sent.mode
  takes_response (ends.SomeText.quiet h) = sending.TakesOneResponse.nothing h.no_taken h.no_waits
  takes_response (ends.SomeText.own a cause h) =
      sending.TakesOneResponse.response (own_text setup a.status) (own_pieces a.to_head a.status) false
      (record {
        status = code_of a.status;
        framing = C.Sized (length (own_body a.status));
        mode_is = h.plain;
        sends = answer_stays_one setup plain a.status;
      })
      (own_answer_body setup refuses v a cause)
      (subst (λ m. v.client.look.taken ++ v.client.outbox
      ≡ own_text setup a.status ++ frames m (own_pieces a.to_head a.status) false) (sym h.plain)
      (h.text ∙ ap (λ ys. own_text setup a.status ++ ys) (own_framed a.to_head a.status)))
  takes_response (ends.SomeText.relayed done fin sent r) =
      sending.TakesOneResponse.response (relayed_head setup r.q.head r.h) r.text.pieces fin
      (record {
        status = r.h.status;
        framing = framing_for setup r.q.head r.h;
        mode_is = r.mode;
        sends = response_stays_one setup plain r.q.head r.h (was_answered r.reads.from r.h _ r.reads.reads);
      })
      (relayed_body setup refuses v done fin sent r)
      r.text.text

  take_once : AnyEnd setup refuses v → LinksTakeOnce v
  take_once any = record { request = takes_request any.took; response = takes_response any.text }

-- ---- the request comes first

module _ (setup : Setup) (refuses : Type 0) (v : View) where
  stands_served : (q : Request) → Served setup refuses (all_of v.client.look) q v.dialed v.origin
      → RequestStands setup refuses v
  stands_served q served =
      let knows = served.goes.knows in
      record {
        request = request_text setup q.head q.target q.host;
        is_request = sent_on q.head q.target q.host
            (record {
              some = knows.some;
              rest = knows.rest;
              reads = knows.reads;
              passes = knows.passes;
              allowed = served.goes.allowed;
              has_origin = served.goes.has_origin;
            })
            refl;
        took = took_request setup refuses q v.origin served.carries served.no_waits (inl served.uploaded);
      }

  own_first : (a : OwnAnswer) → HasOwnCause setup refuses v a → SendsRequestFirst setup refuses v
  own_first a (facts.OwnCause.decided request is whole took) =
      sending.SendsRequestFirst.stands (record {
        request = request;
        is_request = block_request setup v.dialed refuses (all_of v.origin.look) (all_of v.client.look)
            (own_block setup request a.status a.to_head) is;
        took = took;
      })
  own_first a (facts.OwnCause.fault q goes status to_head end failed lacks) =
      sending.SendsRequestFirst.failed failed

  request_first : SomeText setup refuses v → SendsRequestFirst setup refuses v
  request_first (ends.SomeText.quiet h) = sending.SendsRequestFirst.quiet h
  request_first (ends.SomeText.own a cause h) = own_first a cause
  request_first (ends.SomeText.relayed done fin sent r) =
      sending.SendsRequestFirst.stands (stands_served r.q r.served)

module _ {C O Q : Type 0} (client : link.Ghosts C) (origin : link.Ghosts O) (both : upstream.Ghosts O C)
    (stage : transform.Ghosts Q TransformLine) (t : Txn C O Q) where
  pub sends_once : (pending : List Pending) (next : ℕ) (roles : List Named)
      → IsSoundTxn client origin both stage t pending next roles → TxnSendsOnce client origin t
  sends_once pending next roles sound told also =
      take_once (arc_value t.core.setup) sound.stands.setup.plain (OriginRefuses client both t.core)
      (view_of client origin t.core)
      (course_any (arc_value t.core.setup) (OriginRefuses client both t.core) stage
      (view_of client origin t.core) t.course (sound.stands.holds told also))

  pub sends_request_first : (pending : List Pending) (next : ℕ) (roles : List Named)
      → IsSoundTxn client origin both stage t pending next roles → TxnSendsRequestFirst client origin both t
  sends_request_first pending next roles sound told also =
      request_first (arc_value t.core.setup) (OriginRefuses client both t.core) (view_of client origin t.core)
      (course_any (arc_value t.core.setup) (OriginRefuses client both t.core) stage
      (view_of client origin t.core) t.course (sound.stands.holds told also)).text
