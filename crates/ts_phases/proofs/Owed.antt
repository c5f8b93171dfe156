-- What a step owes beside its facts, by the call that it made: a look for a head, a write, a text that was
-- queued, or none.
use Rattle.std.proofs.Common.{◌≡◌, List, ℕ, Bool, false, ap, inl, inr, refl, sym, subst}
use Rattle.std.specs.Arc.{arc_value}
use Rattle.ts_config.specs.declared.fields.PluginLine.{PluginLine}
use Rattle.ts_hooks.specs.declared.txn_end.TxnEnd.TheVariants as E
use Rattle.ts_link.specs.declared.link.Link as link
use Rattle.ts_upstream.specs.declared.upstream.Upstream as upstream
use Rattle.ts_upstream.specs.declared.upstream.Uploaded.{Uploaded}
use Rattle.ts_vconn.specs.MoveAnswers.{push_again, push_failed}
use Rattle.ts_vconn.specs.declared.moves.Pulled.{Pulled}
use Rattle.ts_vconn.specs.declared.moves.Pulled.TheVariants as L
use Rattle.ts_vconn.specs.declared.moves.Pushed.{Pushed}
use Rattle.ts_vconn.specs.declared.moves.Pushed.TheVariants as V
use Rattle.ts_wire.specs.declared.fields.Field.{Field}
use Rattle.ts_wire.specs.declared.heads.RequestHead.{RequestHead}
use Rattle.ts_wire.specs.declared.heads.ResponseHead.{ResponseHead}
use Rattle.ts_block.specs.declared.own_answer.OwnStatus.{OwnStatus}
use Rattle.ts_block.specs.declared.own_answer.OwnStatus.TheVariants as O
use Rattle.ts_phases.specs.Causes.{EndsForCause, HasCause, HasCounts, StandsForCause}
use Rattle.ts_phases.specs.Holding.{StepKeeps}
use Rattle.ts_phases.specs.Moving.{LowersUpload, MovesUpload, SeeksRequest, SeeksResponse, QueuesOwn}
use Rattle.ts_phases.specs.Moving.{QueuesRequest, WritesClient}
use Rattle.ts_phases.specs.Moving.{LowersUpload, MovesUpload, WritesOrigin}
use Rattle.ts_phases.specs.Owed.{IsBadGateway, MayFollow, StepOwes}
use Rattle.ts_phases.specs.Steps.{AnswersOriginFault, ClosesForClientFault, MindsLinks, MindsLinksIn}
use Rattle.ts_phases.specs.Steps.{UploadLeads, WaitsRightly}
use Rattle.ts_phases.specs.View.{IsOneUpload, View, refuses_if, upload_of, view_of}
use Rattle.ts_phases.specs.declared.head_reader.Found.{Found}
use Rattle.ts_phases.specs.declared.head_reader.Found.TheVariants as F
use Rattle.ts_phases.specs.declared.parts.Core.{Core}
use Rattle.ts_phases.specs.declared.phase.Next.TheVariants as N
use Rattle.ts_phases.specs.declared.phase.OwnAnswer.{OwnAnswer}
use Rattle.ts_phases.specs.declared.phase.Phase.{Phase}
use Rattle.ts_phases.specs.declared.phase.Phase.TheVariants as P
use Rattle.ts_phases.specs.declared.phase.Request.{Request}
use Rattle.ts_phases.specs.declared.phase.Step.{Step}
use Rattle.ts_phases.proofs.Causes.{KeepsCounts, answer_cause, answers_cause, asked_kept, cause_kept}
use Rattle.ts_phases.proofs.Causes.{closes_cause, counts_kept, heard_kept, own_kept, queued_kept}
use Rattle.ts_phases.proofs.Causes.{request_cause, sent_kept, still_kept, told_kept, upload_cause}
use Rattle.ts_phases.proofs.Causes.{upload_kept}
use Rattle.ts_phases.proofs.OneSide.{read_failed, write_failed}
use Rattle.ts_phases.proofs.Leaving.{asked_leaves, heard_leaves, leaves_in, moves_outbox, queued_leaves}
use Rattle.ts_phases.proofs.Leaving.{queues_behind, still_leaves, takes_upload, wrote_leaves}
use Rattle.ts_phases.proofs.Minding.{client_left, found_again, found_failed, full_client, full_origin}
use Rattle.ts_phases.proofs.Minding.{heard_request, heard_response, late_client, late_origin, lost_client}
use Rattle.ts_phases.proofs.Minding.{lost_origin, origin_left, queued_own, queued_request}
use Rattle.ts_phases.proofs.Minding.{wrote_client, wrote_origin}
use Rattle.ts_phases.proofs.Sparing.{asked_gives, asked_spares, held_spares, queued_spares, sent_spares}
use Rattle.ts_phases.proofs.Sparing.{spares_in, still_spares, upload_spares, wrote_spares}
use Rattle.ts_phases.proofs.Waiting.{asked_waits, client_waits, heard_waits, origin_waits}

-- a transaction keeps what it is
pub all_kept : {C O : Type 0} (client : link.Ghosts C) (origin : link.Ghosts O) (both : upstream.Ghosts O C)
    (t : Core C O) → StepKeeps client origin both t t
all_kept client origin both t = record {
  number = refl;
  setup = refl;
  plugins_at = refl;
  hooks = refl;
  client = record { source = refl; name = refl; plan = refl; before = refl };
  origin = record { source = refl; name = refl; plan = refl; before = refl };
  client_still = λ l still. still;
  origin_still = λ l still. still;
  client_base = refl;
  origin_base = refl;
  dialed = refl;
  pair = λ paired. paired;
  refusal = record { still = λ list h. h; before = λ list h. h };
}

-- both sides before a step and after it
abbrev before : {C O : Type 0} {client : link.Ghosts C} {origin : link.Ghosts O} {both : upstream.Ghosts O C}
    {t u : Core C O} → StepKeeps client origin both t u → View
before {C} {O} {client} {origin} {both} {t} {u} keeps = view_of client origin t

abbrev after : {C O : Type 0} {client : link.Ghosts C} {origin : link.Ghosts O} {both : upstream.Ghosts O C}
    {t u : Core C O} → StepKeeps client origin both t u → View
after {C} {O} {client} {origin} {both} {t} {u} keeps = view_of client origin u

-- no count of a link fell, and the end of the next phase has its cause
stands_on : (v w : View) (p n : Phase) → KeepsCounts v w → (HasCounts v → EndsForCause v p → EndsForCause w n)
    → StandsForCause v p → StandsForCause w n
stands_on v w p n kept cause stood = record {
  counts = counts_kept v w kept stood.counts;
  ends = cause stood.counts stood.ends;
}

-- the hook plugin lines of a transaction
abbrev pub lines_of : {C O : Type 0} → Core C O → List PluginLine
lines_of t = (arc_value t.setup).plugins.items

module _ {C O : Type 0} {client : link.Ghosts C} {origin : link.Ghosts O} {both : upstream.Ghosts O C}
    {t u : Core C O} {s : Step} (keeps : StepKeeps client origin both t u) where
  -- nothing moved
  pub unmoved : (p : Phase) → after keeps ≡ before keeps → MayFollow (lines_of t) p s.phase
      → MindsLinksIn client origin both t u p s
      → WaitsRightly s.next (before keeps) (after keeps)
      → (EndsForCause (before keeps) p → EndsForCause (before keeps) s.phase)
      → StepOwes client origin both t u p s
  unmoved p same follows minds waits cause = record {
    follows = follows;
    minds = minds;
    waits = waits;
    causes = stands_on (before keeps) (after keeps) p s.phase (still_kept (before keeps) (after keeps) same)
        (λ has ends. subst (λ (x : View). EndsForCause x s.phase) (sym same) (cause ends));
    leaves = λ told also. record {
      origin = leaves_in (before keeps) (after keeps) p (still_leaves (before keeps) (after keeps) same);
      client = spares_in (before keeps) (after keeps) p (still_spares (before keeps) (after keeps) same);
    };
    keeps = keeps;
  }

  -- a request's head was looked for: the link was ready, was not, or failed
  asked_with : (found : Found RequestHead) → SeeksRequest client.tells (before keeps) (after keeps) found
      → MindsLinks (before keeps) (after keeps) s
      → MayFollow (lines_of t) P.ReadRequest s.phase → WaitsRightly s.next (before keeps) (after keeps)
      → (HasCounts (before keeps) → EndsForCause (after keeps) s.phase)
      → StepOwes client origin both t u P.ReadRequest s
  asked_with found hears minds follows waits cause = record {
    follows = follows;
    minds = minds;
    waits = waits;
    causes = stands_on (before keeps) (after keeps) P.ReadRequest s.phase
        (asked_kept (before keeps) (after keeps) client.tells found hears) (λ has ends. cause has);
    leaves = λ told also. record {
      origin = asked_leaves (before keeps) (after keeps) client.tells found hears;
      client = asked_gives (before keeps) (after keeps) client.tells found told hears;
    };
    keeps = keeps;
  }

  pub asked : (found : Found RequestHead) → SeeksRequest client.tells (before keeps) (after keeps) found
      → found_failed found ≡ false
      → found_again found ≡ false → MayFollow (lines_of t) P.ReadRequest s.phase
      → WaitsRightly s.next (before keeps) (after keeps) → EndsForCause (after keeps) s.phase
      → StepOwes client origin both t u P.ReadRequest s
  asked found hears fine ready follows waits cause = asked_with found hears
      (heard_request client.tells (before keeps) (after keeps) s found fine ready hears) follows waits
      (λ has. cause)

  pub asked_late : SeeksRequest client.tells (before keeps) (after keeps) (F.Read L.Again) → s.next ≡ N.Wait
      → MayFollow (lines_of t) P.ReadRequest s.phase → EndsForCause (after keeps) s.phase
      → StepOwes client origin both t u P.ReadRequest s
  asked_late hears later follows cause = asked_with (F.Read L.Again) hears
      (late_client client.tells (before keeps) (after keeps) s hears later) follows
      (subst (λ next. WaitsRightly next (before keeps) (after keeps)) (sym later)
      (asked_waits client.tells (before keeps) (after keeps) hears)) (λ has. cause)

  pub asked_lost : SeeksRequest client.tells (before keeps) (after keeps) (F.Read L.Failed)
      → ClosesForClientFault s.phase
      → MayFollow (lines_of t) P.ReadRequest s.phase → WaitsRightly s.next (before keeps) (after keeps)
      → StepOwes client origin both t u P.ReadRequest s
  asked_lost hears closes follows waits = asked_with (F.Read L.Failed) hears
      (lost_client client.tells (before keeps) (after keeps) s hears closes) follows waits
      (λ has. closes_cause (after keeps) s.phase closes (read_failed client.tells (before keeps).client
      (after keeps).client L.Failed refl hears.finds.1 has.client))

  -- a response's head was looked for
  module _ (q : Request) where
    heard_with : (found : Found ResponseHead) → SeeksResponse origin.tells (before keeps) (after keeps) found
        → MindsLinks (before keeps) (after keeps) s
        → MayFollow (lines_of t) (P.ReadResponse q) s.phase → WaitsRightly s.next (before keeps) (after keeps)
        → (HasCounts (before keeps) → EndsForCause (after keeps) s.phase)
        → StepOwes client origin both t u (P.ReadResponse q) s
    heard_with found hears minds follows waits cause = record {
      follows = follows;
      minds = minds;
      waits = waits;
      causes = stands_on (before keeps) (after keeps) (P.ReadResponse q) s.phase
          (heard_kept (before keeps) (after keeps) origin.tells found hears) (λ has ends. cause has);
      leaves = λ told also. record {
        origin = heard_leaves (before keeps) (after keeps) origin.tells found also hears;
        client = held_spares (before keeps) (after keeps) origin.tells found hears;
      };
      keeps = keeps;
    }

    pub heard : (found : Found ResponseHead) → SeeksResponse origin.tells (before keeps) (after keeps) found
        → found_failed found ≡ false
        → found_again found ≡ false → MayFollow (lines_of t) (P.ReadResponse q) s.phase
        → WaitsRightly s.next (before keeps) (after keeps) → EndsForCause (after keeps) s.phase
        → StepOwes client origin both t u (P.ReadResponse q) s
    heard found hears fine ready follows waits cause = heard_with found hears
        (heard_response origin.tells (before keeps) (after keeps) s found fine ready hears) follows waits
        (λ has. cause)

    pub heard_late : SeeksResponse origin.tells (before keeps) (after keeps) (F.Read L.Again)
        → s.next ≡ N.Wait
        → MayFollow (lines_of t) (P.ReadResponse q) s.phase → EndsForCause (after keeps) s.phase
        → StepOwes client origin both t u (P.ReadResponse q) s
    heard_late hears later follows cause = heard_with (F.Read L.Again) hears
        (late_origin origin.tells (before keeps) (after keeps) s hears later) follows
        (subst (λ next. WaitsRightly next (before keeps) (after keeps)) (sym later)
        (heard_waits origin.tells (before keeps) (after keeps) hears)) (λ has. cause)

    pub heard_lost : SeeksResponse origin.tells (before keeps) (after keeps) (F.Read L.Failed)
        → AnswersOriginFault s.phase
        → MayFollow (lines_of t) (P.ReadResponse q) s.phase → WaitsRightly s.next (before keeps) (after keeps)
        → StepOwes client origin both t u (P.ReadResponse q) s
    heard_lost hears answers follows waits = heard_with (F.Read L.Failed) hears
        (lost_origin origin.tells (before keeps) (after keeps) s hears answers) follows waits
        (λ has. answers_cause (after keeps) s.phase answers (read_failed origin.tells (before keeps).origin
        (after keeps).origin L.Failed refl hears.finds.1 has.origin))

  -- the request's head was written to the origin
  module _ (q : Request) where
    sent_with : (p : Pushed) → WritesOrigin origin.tells (before keeps) (after keeps) p
        → MindsLinks (before keeps) (after keeps) s
        → MayFollow (lines_of t) (P.SendRequest q) s.phase → WaitsRightly s.next (before keeps) (after keeps)
        → (HasCounts (before keeps) → EndsForCause (after keeps) s.phase)
        → StepOwes client origin both t u (P.SendRequest q) s
    sent_with p writes minds follows waits cause = record {
      follows = follows;
      minds = minds;
      waits = waits;
      causes = stands_on (before keeps) (after keeps) (P.SendRequest q) s.phase
          (sent_kept (before keeps) (after keeps) origin.tells p writes) (λ has ends. cause has);
      leaves = λ told also. record {
        origin = moves_outbox (before keeps) (after keeps) origin.tells p also writes;
        client = sent_spares (before keeps) (after keeps) origin.tells p writes;
      };
      keeps = keeps;
    }

    pub sent : (p : Pushed) → WritesOrigin origin.tells (before keeps) (after keeps) p → push_failed p ≡ false
        → push_again p ≡ false
        → MayFollow (lines_of t) (P.SendRequest q) s.phase → WaitsRightly s.next (before keeps) (after keeps)
        → EndsForCause (after keeps) s.phase → StepOwes client origin both t u (P.SendRequest q) s
    sent p writes fine ready follows waits cause = sent_with p writes (wrote_origin origin.tells
        (before keeps) (after keeps) s p fine ready writes) follows waits (λ has. cause)

    pub sent_late : WritesOrigin origin.tells (before keeps) (after keeps) V.Again → s.next ≡ N.Wait
        → MayFollow (lines_of t) (P.SendRequest q) s.phase → EndsForCause (after keeps) s.phase
        → StepOwes client origin both t u (P.SendRequest q) s
    sent_late writes later follows cause = sent_with V.Again writes
        (full_origin origin.tells (before keeps) (after keeps) s writes later)
        follows
        (subst (λ next. WaitsRightly next (before keeps) (after keeps)) (sym later)
        (origin_waits origin.tells (before keeps) (after keeps) writes)) (λ has. cause)

    pub sent_lost : WritesOrigin origin.tells (before keeps) (after keeps) V.Failed
        → AnswersOriginFault s.phase
        → MayFollow (lines_of t) (P.SendRequest q) s.phase → WaitsRightly s.next (before keeps) (after keeps)
        → StepOwes client origin both t u (P.SendRequest q) s
    sent_lost writes answers follows waits = sent_with V.Failed writes (origin_left origin.tells
        (before keeps) (after keeps) s writes answers) follows waits
        (λ has. answers_cause (after keeps) s.phase answers (write_failed origin.tells (before keeps).origin
        (after keeps).origin V.Failed refl writes.origin has.origin))

  -- an answer of the proxy's own was written to the client
  module _ (a : OwnAnswer) where
    told_with : (p : Pushed) → WritesClient client.tells (before keeps) (after keeps) p
        → MindsLinks (before keeps) (after keeps) s
        → MayFollow (lines_of t) (P.Sending a) s.phase → WaitsRightly s.next (before keeps) (after keeps)
        → (HasCounts (before keeps) → HasCause (after keeps) a.end → EndsForCause (after keeps) s.phase)
        → StepOwes client origin both t u (P.Sending a) s
    told_with p writes minds follows waits cause = record {
      follows = follows;
      minds = minds;
      waits = waits;
      causes = stands_on (before keeps) (after keeps) (P.Sending a) s.phase
          (told_kept (before keeps) (after keeps) client.tells p writes) (λ has ends. cause has (cause_kept
          (before keeps) (after keeps) (told_kept (before keeps) (after keeps) client.tells p writes) a.end
          ends));
      leaves = λ told also. record {
        origin = wrote_leaves (before keeps) (after keeps) client.tells p writes;
        client = wrote_spares (before keeps) (after keeps) client.tells p told writes;
      };
      keeps = keeps;
    }

    pub answered : (p : Pushed) → WritesClient client.tells (before keeps) (after keeps) p
        → push_failed p ≡ false
        → push_again p ≡ false
        → MayFollow (lines_of t) (P.Sending a) s.phase → WaitsRightly s.next (before keeps) (after keeps)
        → (HasCause (after keeps) a.end → EndsForCause (after keeps) s.phase)
        → StepOwes client origin both t u (P.Sending a) s
    answered p writes fine ready follows waits cause = told_with p writes (wrote_client client.tells
        (before keeps) (after keeps) s p fine ready writes) follows waits (λ has. cause)

    pub answered_late : WritesClient client.tells (before keeps) (after keeps) V.Again → s.next ≡ N.Wait
        → MayFollow (lines_of t) (P.Sending a) s.phase
        → (HasCause (after keeps) a.end → EndsForCause (after keeps) s.phase)
        → StepOwes client origin both t u (P.Sending a) s
    answered_late writes later follows cause = told_with V.Again writes
        (full_client client.tells (before keeps) (after keeps) s writes later) follows
        (subst (λ next. WaitsRightly next (before keeps) (after keeps)) (sym later)
        (client_waits client.tells (before keeps) (after keeps) writes)) (λ has. cause)

    pub answered_lost : WritesClient client.tells (before keeps) (after keeps) V.Failed
        → ClosesForClientFault s.phase
        → MayFollow (lines_of t) (P.Sending a) s.phase → WaitsRightly s.next (before keeps) (after keeps)
        → StepOwes client origin both t u (P.Sending a) s
    answered_lost writes closes follows waits = told_with V.Failed writes (client_left client.tells
        (before keeps) (after keeps) s writes closes) follows waits
        (λ has ends. closes_cause (after keeps) s.phase closes (write_failed client.tells
        (before keeps).client (after keeps).client V.Failed refl writes.client has.client))

  -- a text was queued
  pub request_queued : (q : Request) (place : ℕ) (fields : List Field) (text : List ℕ)
      → QueuesRequest text (before keeps) (after keeps)
      → MayFollow (lines_of t) (P.RuleRequest q place fields) s.phase
      → WaitsRightly s.next (before keeps) (after keeps) → StepOwes client origin both t u
      (P.RuleRequest q place fields) s
  request_queued q place fields text queues follows waits = record {
    follows = follows;
    causes = stands_on (before keeps) (after keeps) (P.RuleRequest q place fields) s.phase
        (queued_kept (before keeps) (after keeps) text queues)
        (λ has ends. request_cause (after keeps) (lines_of t) q place fields s.phase follows);
    minds = queued_request (before keeps) (after keeps) s text queues;
    waits = waits;
    leaves = λ told also. record {
      origin = queues_behind (before keeps) (after keeps) text queues;
      client = asked_spares (before keeps) (after keeps) text queues;
    };
    keeps = keeps;
  }

  pub own_queued : (a : OwnAnswer) (place : ℕ) (fields : List Field) (head body : List ℕ)
      → QueuesOwn head body (before keeps) (after keeps)
      → MayFollow (lines_of t) (P.RuleAnswer a place fields) s.phase
      → WaitsRightly s.next (before keeps) (after keeps)
      → StepOwes client origin both t u (P.RuleAnswer a place fields) s
  own_queued a place fields head body queues follows waits = record {
    follows = follows;
    causes = stands_on (before keeps) (after keeps) (P.RuleAnswer a place fields) s.phase
        (own_kept (before keeps) (after keeps) head body queues)
        (λ has ends. answer_cause (after keeps) (lines_of t) a place fields s.phase follows (cause_kept
        (before keeps) (after keeps) (own_kept (before keeps) (after keeps) head body queues) a.end ends));
    minds = queued_own (before keeps) (after keeps) s head body queues;
    waits = waits;
    leaves = λ told also. record {
      origin = queued_leaves (before keeps) (after keeps) head body queues;
      client = queued_spares (before keeps) (after keeps) head body queues;
    };
    keeps = keeps;
  }

-- an upload was moved
pub uploads : {C O : Type 0} {client : link.Ghosts C} {origin : link.Ghosts O} {both : upstream.Ghosts O C}
    {t u : Core C O} {s : Step} → StepKeeps client origin both t u → (q : Request) (answer : Uploaded)
    → IsOneUpload both t u answer
    → MovesUpload client.tells origin.tells (refuses_if both.refuses t.origin) answer
    (view_of client origin t) (view_of client origin u)
    → LowersUpload answer (upload_of both t) (upload_of both u) (view_of client origin t)
    (view_of client origin u)
    → UploadLeads answer q s → MayFollow (lines_of t) (P.Upload q) s.phase
    → WaitsRightly s.next (view_of client origin t) (view_of client origin u)
    → StepOwes client origin both t u (P.Upload q) s
uploads {C} {O} {client} {origin} {both} {t} {u} {s} keeps q answer one moves lowers leads follows waits =
    record {
      follows = follows;
      causes = stands_on (view_of client origin t) (view_of client origin u) (P.Upload q) s.phase
          (upload_kept (view_of client origin t) (view_of client origin u) client.tells origin.tells
          (refuses_if both.refuses t.origin) answer moves)
          (λ has ends. upload_cause (view_of client origin t) (view_of client origin u) client.tells
          origin.tells (refuses_if both.refuses t.origin) q s answer leads moves has);
      minds = record { answer = answer; one = one; moves = moves; lowers = lowers; leads = leads };
      waits = waits;
      leaves = λ told also. record {
        origin = takes_upload (view_of client origin t) (view_of client origin u) client.tells origin.tells
            (refuses_if both.refuses t.origin) answer also moves;
        client = upload_spares (view_of client origin t) (view_of client origin u) client.tells origin.tells
            (refuses_if both.refuses t.origin) answer told moves;
      };
      keeps = keeps;
    }

-- a step that calls nothing
pub stands : {C O : Type 0} (client : link.Ghosts C) (origin : link.Ghosts O) (both : upstream.Ghosts O C)
    (t : Core C O) {s : Step} (p : Phase) → MayFollow (lines_of t) p s.phase
    → MindsLinksIn client origin both t t p s
    → WaitsRightly s.next (view_of client origin t) (view_of client origin t)
    → (EndsForCause (view_of client origin t) p → EndsForCause (view_of client origin t) s.phase)
    → StepOwes client origin both t t p s
stands client origin both t p follows minds waits cause = unmoved (all_kept client origin both t) p refl
    follows minds waits cause

-- the answer that was read, by an equation
pub request_read : {t : Bool} {v w : View} {p q : Pulled} → p ≡ q → SeeksRequest t v w (F.Read p)
    → SeeksRequest t v w (F.Read q)
request_read {t} {v} {w} is seeks = subst (λ (x : Pulled). SeeksRequest t v w (F.Read x)) is seeks

pub response_read : {t : Bool} {v w : View} {p q : Pulled} → p ≡ q → SeeksResponse t v w (F.Read p)
    → SeeksResponse t v w (F.Read q)
response_read {t} {v} {w} is seeks = subst (λ (x : Pulled). SeeksResponse t v w (F.Read x)) is seeks

-- the 502 answer after the origin's fault
pub bad_gateway : {a : OwnAnswer} {to_head : Bool}
    → a ≡ record { status = O.BadGateway; to_head = to_head; end = E.OriginFault }
    → (a.status ≡ O.BadGateway) × (a.end ≡ E.OriginFault)
bad_gateway is = (ap (λ (x : OwnAnswer). x.status) is, ap (λ (x : OwnAnswer). x.end) is)

-- that where the origin gave no response that can be passed on
pub no_response : {a : OwnAnswer} {to_head : Bool}
    → a ≡ record { status = O.BadGateway; to_head = to_head; end = E.Whole } → IsBadGateway a
no_response is = (ap (λ (x : OwnAnswer). x.status) is, inl (ap (λ (x : OwnAnswer). x.end) is))

-- and that where the origin's link failed
pub lost_response : (a : OwnAnswer) → (a.status ≡ O.BadGateway) × (a.end ≡ E.OriginFault) → IsBadGateway a
lost_response a lost = (lost.0, inr lost.1)

-- the answer of a status, and the whole end after it
pub ends_whole : {a : OwnAnswer} {status : OwnStatus} {to_head : Bool}
    → a ≡ record { status = status; to_head = to_head; end = E.Whole } → a.end ≡ E.Whole
ends_whole is = ap (λ (x : OwnAnswer). x.end) is

-- and the 400 answer after a refusal
pub refusal : {a : OwnAnswer} {to_head : Bool}
    → a ≡ record { status = O.BadRequest; to_head = to_head; end = E.Whole }
    → (a.status ≡ O.BadRequest) × (a.end ≡ E.Whole)
refusal is = (ap (λ (x : OwnAnswer). x.status) is, ap (λ (x : OwnAnswer). x.end) is)
