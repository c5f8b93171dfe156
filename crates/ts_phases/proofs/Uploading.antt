-- The phase in which the origin's link moves an upload: where each answer leads.
use Rattle.std.proofs.Common.{◌≡◌, ℕ, ◌≤◌, List, [], ◌++◌, Bool, true, arith, refl, sym, ap, subst, ◌∙◌}
use Rattle.std.proofs.Common.{append_assoc, inl, inr, length, ◌≢◌, ◌⊎◌, length-append}
use Rattle.std.proofs.lemmas.List.{append-nil}
use Rattle.std.proofs.Math.Nat.{le_trans}
use Rattle.std.specs.Prelude.{codes, flat_map}
use Rattle.ts_config.specs.declared.setup.Setup.{Setup}
use Rattle.ts_config.specs.declared.fields.Side.TheVariants as S
use Rattle.ts_hooks.specs.declared.txn_end.TxnEnd.TheVariants as E
use Rattle.ts_link.specs.Counts.{Rose}
use Rattle.ts_link.specs.Link.{Look, all_of}
use Rattle.ts_upstream.specs.declared.upstream.Uploaded.{Uploaded}
use Rattle.ts_upstream.specs.declared.upstream.Uploaded.TheVariants as U
use Rattle.ts_upstream.specs.Uploads.{UploadKeeps, UploadsClient, UploadsOrigin}
use Rattle.ts_wire.specs.Check.{is_absolute}
use Rattle.ts_wire.specs.Forward.{forwarded}
use Rattle.ts_wire.specs.Limits.{head_limit}
use Rattle.ts_wire.specs.Printed.{missing_host_text, request_field_text, via_text}
use Rattle.ts_block.specs.Relayed.{asks_head}
use Rattle.ts_block.specs.Rules.{ruled}
use Rattle.ts_block.specs.Block.{own_block, request_text}
use Rattle.ts_phases.specs.View.{HasFailed, LinkSide, View}
use Rattle.ts_phases.specs.Moving.{MovesUpload}
use Rattle.ts_phases.specs.Facts.{AwaitsFinal, CarriesRequest, Goes, OwnReady, TookExactly, Uploading}
use Rattle.ts_phases.specs.Facts.{decided}
use Rattle.ts_phases.specs.Facts as facts
use Rattle.ts_phases.specs.Ends.{AnyEnd, EndFact}
use Rattle.ts_block.specs.declared.own_answer.OwnStatus.TheVariants as O
use Rattle.ts_phases.specs.declared.phase.OwnAnswer.{OwnAnswer}
use Rattle.ts_phases.specs.declared.phase.Request.{Request}
use Rattle.ts_phases.proofs.OneSide.{failed, quiet_as}
use Rattle.ts_phases.proofs.Asks.{client_fails, lacks_memory}
use Rattle.ts_phases.proofs.Going.{faulty, gone_block, unanswered_any}

-- the head of a request that an origin gets is not empty: its last line is there
pub filled : (setup : Setup) (q : Request) → request_text setup q.head q.target q.host ≢ []
filled setup q e =
    let fields = ruled S.Request setup.plugins.items (forwarded q.head.fields) in
    let front = q.head.method ++ codes " " ++ q.target ++ codes " HTTP/1.1\r\n"
    ++ missing_host_text q.host fields
    ++ flat_map (request_field_text (is_absolute q.head.target) q.host) fields ++ via_text q.head.minor in
    absurd (omega (arith, length-append front (codes "connection: close\r\n\r\n"), ap length e))

none_held : (held : List ℕ) → held ≡ [] → length held ≤ head_limit
none_held held none = let no : length held ≡ 0 = ap length none in omega (arith, no)

-- what the origin took is the request and the upload, where nothing waits for it
took_is : (setup : Setup) (q : Request) (o : LinkSide) → CarriesRequest setup q o → o.outbox ≡ []
    → o.look.taken ≡ request_text setup q.head q.target q.host ++ o.look.carried
took_is setup q o h none = sym (append-nil o.look.taken) ∙ ap (λ (x : List ℕ). o.look.taken ++ x) (sym none)
    ∙ h.text

-- the upload was moved, or is refused
pub took_request : (setup : Setup) (refuses : Type 0) (q : Request) (o : LinkSide)
    → CarriesRequest setup q o → o.outbox ≡ [] → (o.look.uploaded ≡ true) ⊎ refuses
    → TookExactly refuses (request_text setup q.head q.target q.host) o
took_request setup refuses q o h none moved = record {
  text = took_is setup q o h none;
  nothing = λ is. absurd (filled setup q is);
  uploaded = λ some. moved;
  no_waits = none;
}

uploads_at : (setup : Setup) (v : View) (c l : Look) (q : Request) → Uploading setup v q
    → UploadsClient v.client.look c → UploadsOrigin v.origin.look l → UploadKeeps v.client.look c v.origin.look l
    → Uploading setup (record v {
      client = record v.client { look = c };
      origin =
          record v.origin { look = l };
    }) q
uploads_at setup v c l q h of_client of_origin keeps =
    let text = request_text setup q.head q.target q.host in
    let before = took_is setup q v.origin h.carries h.no_waits in
    let un = h.unanswered in
    record {
      unanswered = record {
        waits = record {
          count = le_trans un.waits.count keeps.client.faults;
          quiet = quiet_as v.client (record v.client { look = c }) v.sent of_client.taken refl un.waits.quiet;
          some = λ is. un.waits.some (sym of_client.given ∙ is);
        };
        goes = subst (λ (x : List ℕ). Goes setup x q v.dialed) (sym of_client.all) un.goes;
        count = le_trans un.count keeps.origin.faults;
        no_given = of_origin.given ∙ un.no_given;
        no_held = un.no_held;
      };
      carries = record {
        text = ap (λ (x : List ℕ). l.taken ++ x) h.no_waits ∙ append-nil l.taken ∙ of_origin.taken
            ∙ ap (λ (x : List ℕ). x ++ of_origin.more) before
            ∙ append_assoc text v.origin.look.carried of_origin.more
            ∙ ap (λ (x : List ℕ). text ++ x) (sym of_origin.carried);
        behind = λ some. absurd (some h.no_waits);
      };
      no_waits = h.no_waits;
    }

module _ (setup : Setup) (ct ot : Bool) (refuses : List ℕ → Type 0) (v w : View) (q : Request)
    (client : ct ≡ true) (origin : ot ≡ true) (h : Uploading setup v q) where
  -- some of it was moved
  pub uploads_on : (answer : Uploaded) → MovesUpload ct ot refuses answer v w → Uploading setup w q
  uploads_on answer m =
      let all = m.others ∙ ap (λ (s : LinkSide). record v {
        client =
            record v.client { look = w.client.look };
        origin = s;
      }) m.moves.others in
      subst (λ (x : View). Uploading setup x q) (sym all) (uploads_at setup v w.client.look w.origin.look q h
      (m.moves.bytes.client client) (m.moves.bytes.origin origin) m.moves.keeps)

  -- all of it was
  pub uploaded : MovesUpload ct ot refuses U.Done v w
      → AwaitsFinal setup (refuses v.client.look.source) w q
  uploaded m =
      let now = uploads_on U.Done m in
      record {
        waits = now.unanswered.waits;
        served = record {
          goes = now.unanswered.goes;
          accepts = m.moves.causes.refusal client;
          uploaded = m.moves.causes.ends;
          count =
              now.unanswered.count;
          carries = now.carries;
          no_waits = now.no_waits;
        };
        passed = record { interims = []; after = now.unanswered.no_given ∙ sym now.unanswered.no_held };
        held = none_held w.origin.inbox now.unanswered.no_held;
      }

  -- it is refused
  pub upload_refused : (a : OwnAnswer) → MovesUpload ct ot refuses U.Refused v w
      → a ≡ record { status = O.BadRequest; to_head = asks_head q.head; end = E.Whole }
      → OwnReady setup (refuses v.client.look.source) w a
  upload_refused a m same =
      let now = uploads_on U.Refused m in
      let text = request_text setup q.head q.target q.host in
      subst (λ (x : OwnAnswer). OwnReady setup (refuses v.client.look.source) w x) (sym same)
      (record {
        waits = now.unanswered.waits;
        cause = decided text
            (gone_block setup w.dialed (refuses v.client.look.source) (all_of w.origin.look)
            (all_of w.client.look) q (own_block setup text O.BadRequest (asks_head q.head))
            now.unanswered.goes (inl (m.moves.causes.refusal client, refl)))
            refl (took_request setup (refuses v.client.look.source) q w.origin now.carries now.no_waits
            (inr (m.moves.causes.refusal client)));
        took = facts.request q now.unanswered.goes now.carries;
      })

  upload_any : (answer : Uploaded) → MovesUpload ct ot refuses answer v w
      → AnyEnd setup (refuses v.client.look.source) w
  upload_any answer m =
      let now = uploads_on answer m in
      unanswered_any setup (refuses v.client.look.source) w q now.unanswered now.carries

  -- the client's link failed
  pub upload_client_fault : MovesUpload ct ot refuses U.ClientFailed v w
      → EndFact setup (refuses v.client.look.source) w E.ClientFault
  upload_client_fault m =
      let rose : Rose v.client.base w.client.look.faults = failed v.client.base v.client.look.faults
      w.client.look.faults m.moves.causes.counts h.unanswered.waits.count in
      client_fails setup (refuses v.client.look.source) w (upload_any U.ClientFailed m)
      (subst (λ (x : View). HasFailed x.client) (sym m.others) rose)

  -- the origin's link failed
  pub upload_origin_fault : (a : OwnAnswer) → MovesUpload ct ot refuses U.OriginFailed v w
      → a ≡ record { status = O.BadGateway; to_head = asks_head q.head; end = E.OriginFault }
      → OwnReady setup (refuses v.client.look.source) w a
  upload_origin_fault a m same =
      let rose : Rose v.origin.base w.origin.look.faults = failed v.origin.base v.origin.look.faults
      w.origin.look.faults m.moves.causes.counts h.unanswered.count in
      let now = uploads_on U.OriginFailed m in
      faulty setup (refuses v.client.look.source) w q a now.unanswered now.carries
      (subst (λ (s : LinkSide). HasFailed s) (sym m.moves.others) rose) same

  pub upload_lacks : MovesUpload ct ot refuses U.NoMemory v w
      → EndFact setup (refuses v.client.look.source) w E.NoMemory
  upload_lacks m = lacks_memory setup (refuses v.client.look.source) w (upload_any U.NoMemory m)
