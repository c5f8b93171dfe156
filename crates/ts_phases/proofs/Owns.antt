-- The phases in which an answer of the proxy's own is queued and sent: where each step leads.
use Rattle.std.proofs.Common.{◌≡◌, ◌≢◌, ℕ, ◌<◌, ◌≤◌, List, [], ◌∷◌, ◌++◌, map, length, Bool, true, false}
use Rattle.std.proofs.Common.{refl, sym, ap, subst, ◌∙◌, arith}
use Rattle.std.specs.Prelude.{All}
use Rattle.std.proofs.lemmas.List.{append-nil}
use Rattle.std.proofs.lemmas.List.Elements.{All-nil, All-cons}
use Rattle.ts_config.specs.declared.setup.Setup.{Setup}
use Rattle.ts_hooks.specs.declared.txn_end.TxnEnd.{TxnEnd}
use Rattle.ts_hooks.specs.declared.txn_end.TxnEnd.TheVariants as E
use Rattle.ts_link.specs.Link.{Look, TakesMore, all_of}
use Rattle.ts_vconn.specs.declared.moves.Pushed.{Pushed}
use Rattle.ts_vconn.specs.declared.moves.Pushed.TheVariants as V
use Rattle.ts_wire.specs.declared.frames.Mode.{Mode}
use Rattle.ts_wire.specs.declared.frames.Mode.TheVariants as M
use Rattle.ts_wire.specs.Frames.{cut_body, frames, IsPiece}
use Rattle.ts_block.specs.Own.{own_body, own_sent}
use Rattle.ts_block.specs.Block.{own_block, own_text}
use Rattle.ts_phases.specs.View.{LinkSide, View}
use Rattle.ts_phases.specs.Moving.{cuts_of, QueuesOwn, SideWrites, WritesClient}
use Rattle.ts_phases.specs.Facts.{HasOwnCause, HasOwnText, OwnCause, OwnReady, OwnSends, OriginTook, decided}
use Rattle.ts_phases.specs.Facts.{fault}
use Rattle.ts_phases.specs.Ends.{AnyEnd, EndFact, EndsBy, HasText}
use Rattle.ts_phases.specs.Ends as ends
use Rattle.ts_block.specs.declared.own_answer.OwnStatus.{OwnStatus}
use Rattle.ts_block.specs.declared.own_answer.OwnStatus.TheVariants as O
use Rattle.ts_phases.specs.declared.phase.OwnAnswer.{OwnAnswer}
use Rattle.ts_phases.proofs.OneSide.{stays, write_count, write_failed}

-- ---- the body in one piece

own_piece : (status : OwnStatus) → IsPiece (own_body status)
own_piece O.BadRequest = (omega arith, omega arith)
own_piece _ = (omega arith, omega arith)

-- an answer to HEAD has no piece, and another its body
abbrev pieces_of : Bool → OwnStatus → List (List ℕ)
pieces_of true status = []
pieces_of false status = own_body status ∷ []

pieces_each : (to_head : Bool) (status : OwnStatus) → All IsPiece (pieces_of to_head status)
pieces_each true status = All-nil IsPiece
pieces_each false status = All-cons IsPiece (own_body status) [] (own_piece status) (All-nil IsPiece)

pieces_text : (to_head : Bool) (status : OwnStatus) → own_sent to_head status ≡ frames M.Plain
    (pieces_of to_head status) true
pieces_text true status = refl
pieces_text false status = sym (append-nil (own_body status ++ []) ∙ append-nil (own_body status))

pieces_joined : (to_head : Bool) (status : OwnStatus) → cut_body (pieces_of to_head status) ≡ own_sent to_head
    status
pieces_joined true status = refl
pieces_joined false status = append-nil (own_body status)

one_cut : (body : List ℕ) → 0 < length body → cuts_of body ≡ length body ∷ []
one_cut [] some = absurd (omega (arith, some))
one_cut (b ∷ bs) some = refl

pieces_cuts : (to_head : Bool) (status : OwnStatus) → cuts_of (own_sent to_head status) ≡ map length
    (pieces_of to_head status)
pieces_cuts true status = refl
pieces_cuts false status = one_cut (own_body status) (own_piece status).0

-- the client's text is that of an answer with frames
own_has_text : (setup : Setup) (v : View) (a : OwnAnswer) → HasOwnText setup v.client v.sent a
    → HasText v.client v.sent (own_text setup a.status) (own_sent a.to_head a.status) true
own_has_text setup v a own = record {
  pieces = pieces_of a.to_head a.status;
  each = pieces_each a.to_head a.status;
  text = own.text ∙ ap (λ (x : List ℕ). own_text setup a.status ++ x) (pieces_text a.to_head a.status)
      ∙ ap (λ (m : Mode). own_text setup a.status ++ frames m (pieces_of a.to_head a.status) true)
      (sym own.plain);
  head_is = own.head;
  cuts = own.cuts ∙ pieces_cuts a.to_head a.status;
  body_is = pieces_joined a.to_head a.status;
}

pub all_took : (old new : Look) (more : List ℕ) → old.given ≢ [] → TakesMore old new more
    → all_of new ≡ all_of old
all_took old new more some t = λ i. t.given i ++ stays old.given old.left new.left some t.left i

module _ (setup : Setup) (refuses : Type 0) where
  pub ready_any : (v : View) (a : OwnAnswer) → OwnReady setup refuses v a → AnyEnd setup refuses v
  ready_any v a h = record { took = h.took; text = ends.quiet h.waits.quiet }

  pub own_any : (v : View) (a : OwnAnswer) → OwnSends setup refuses v a → AnyEnd setup refuses v
  own_any v a h = record { took = h.took; text = ends.own a h.cause h.text }

  -- ---- it is queued whole

  queued_at : (v w : View) (a : OwnAnswer) (head body : List ℕ) → OwnReady setup refuses v a
      → QueuesOwn head body v w → head ≡ own_text setup a.status
      → body ≡ own_sent a.to_head a.status → HasOwnText setup w.client w.sent a
  queued_at v w a head body h queues head_is body_is =
      let quiet = h.waits.quiet in
      let all : v.client.look.taken ++ (v.client.outbox ++ (head ++ body)) ≡ own_text setup a.status
      ++ own_sent a.to_head a.status =
      λ i. quiet.no_taken i ++ (quiet.no_waits i ++ (head_is i ++ body_is i)) in
      record {
        text = ap (λ (s : LinkSide). s.look.taken ++ s.outbox) queues.client ∙ all;
        head = queues.head_is ∙ ap length head_is;
        plain = queues.plain;
        cuts = queues.cuts ∙ ap cuts_of body_is;
      }

  pub queues : (v w : View) (a : OwnAnswer) (head body : List ℕ) → OwnReady setup refuses v a
      → QueuesOwn head body v w → head ≡ own_text setup a.status
      → body ≡ own_sent a.to_head a.status → OwnSends setup refuses w a
  queues v w a head body h q head_is body_is =
      let look : w.client.look ≡ v.client.look = ap (λ (s : LinkSide). s.look) q.client in
      let all : all_of w.client.look ≡ all_of v.client.look = ap all_of look in
      record {
        count = subst (λ (s : LinkSide). s.base ≤ s.look.faults) (sym q.client) h.waits.count;
        some = λ e. h.waits.some (sym (ap (λ (l : Look). l.given) look) ∙ e);
        cause = subst (λ (c : List ℕ). OwnCause setup refuses c w.dialed w.origin a) (sym all)
            (subst (λ (d : Bool). OwnCause setup refuses (all_of v.client.look) d w.origin a) (sym q.dialed)
            (subst (λ (s : LinkSide). OwnCause setup refuses (all_of v.client.look) v.dialed s a)
            (sym q.origin) h.cause));
        took = subst (λ (c : List ℕ). OriginTook setup c w.dialed w.origin) (sym all)
            (subst (λ (d : Bool). OriginTook setup (all_of v.client.look) d w.origin) (sym q.dialed)
            (subst (λ (s : LinkSide). OriginTook setup (all_of v.client.look) v.dialed s) (sym q.origin)
            h.took));
        text = queued_at v w a head body h q head_is body_is;
      }

  -- memory lacked, and nothing was queued
  pub not_queued : (v w : View) (a : OwnAnswer) → OwnReady setup refuses v a → w ≡ v → AnyEnd setup refuses w
  not_queued v w a h same = subst (λ (x : View). AnyEnd setup refuses x) (sym same) (ready_any v a h)

  -- ---- a write of it

  sends_side : (t : Bool) (v : View) (s : LinkSide) (p : Pushed) (a : OwnAnswer) → t ≡ true
      → OwnSends setup refuses v a → SideWrites t v.client s p
      → OwnSends setup refuses (record v { client = s }) a
  sends_side t v s p a told h writes =
      let takes = writes.pushes.told told in
      let all = all_took v.client.look s.look _ h.some takes in
      record {
        count = write_count t v.client s p writes h.count;
        some = λ e. h.some (sym takes.given ∙ e);
        cause = subst (λ (c : List ℕ). OwnCause setup refuses c v.dialed v.origin a) (sym all) h.cause;
        took = subst (λ (c : List ℕ). OriginTook setup c v.dialed v.origin) (sym all) h.took;
        text = record {
          text = writes.pushes.text told ∙ h.text.text;
          head = h.text.head;
          plain =
              h.text.plain;
          cuts = h.text.cuts;
        };
      }

  pub sends_on : (t : Bool) (v w : View) (p : Pushed) (a : OwnAnswer) → t ≡ true → OwnSends setup refuses v a
      → WritesClient t v w p → OwnSends setup refuses w a
  sends_on t v w p a told h writes =
      subst (λ (x : View). OwnSends setup refuses x a) (sym writes.others)
      (sends_side t v w.client p a told h writes.client)

  -- ---- all of it was sent

  ends_by : (v : View) (a : OwnAnswer) → OwnSends setup refuses v a → v.client.outbox ≡ []
      → EndsBy setup refuses v a.end
  ends_by v a h none = by_cause h.cause
    where
      by_cause : HasOwnCause setup refuses v a → EndsBy setup refuses v a.end
      by_cause (decided request is whole took) = subst (λ (e : TxnEnd). EndsBy setup refuses v e) (sym whole)
          (record {
            block = own_block setup request a.status a.to_head;
            has = record { is_block = is; ends = refl; took = took; no_waits = none; mode = h.text.plain };
            text = own_has_text setup v a h.text;
          })
      by_cause (fault q goes status to_head end failed lacks) =
          subst (λ (e : TxnEnd). EndsBy setup refuses v e) (sym end) (record {
            failed = failed;
            no_waits = none;
            text = ends.own a end (fault q goes status to_head end failed lacks) h.text;
          })

  pub sent_whole : (t : Bool) (v w : View) (a : OwnAnswer) → t ≡ true → OwnSends setup refuses v a
      → WritesClient t v w V.Nothing → EndFact setup refuses w a.end
  sent_whole t v w a told h writes =
      let on = sends_on t v w V.Nothing a told h writes in
      record {
        any = own_any w a on;
        by = ends_by w a on (writes.client.pushes.went.1
            ∙ writes.client.pushes.went.0);
      }

  -- the client's link failed
  pub client_left : (t : Bool) (v w : View) (a : OwnAnswer) → t ≡ true → OwnSends setup refuses v a
      → WritesClient t v w V.Failed → EndFact setup refuses w E.ClientFault
  client_left t v w a told h writes =
      record {
        any = own_any w a (sends_on t v w V.Failed a told h writes);
        by =
            write_failed t v.client w.client V.Failed refl writes.client h.count;
      }

  -- memory lacked
  pub own_lost : (t : Bool) (v w : View) (a : OwnAnswer) → t ≡ true → OwnSends setup refuses v a
      → WritesClient t v w V.NoMemory → EndFact setup refuses w E.NoMemory
  own_lost t v w a told h writes = record {
    any = own_any w a (sends_on t v w V.NoMemory a told h writes);
    by = tt;
  }
