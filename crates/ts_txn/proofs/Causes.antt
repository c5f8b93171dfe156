-- The cause of an end stays on the whole course of a transaction: over the step of a phase, over an event of
-- a body, and over the last writes.
use Rattle.std.proofs.Common.{◌≡◌, ◌⊎◌, inl, inr, Bool, true, false, sym, ap, subst}
use Rattle.ts_hooks.specs.declared.txn_end.TxnEnd.{TxnEnd}
use Rattle.ts_hooks.specs.declared.txn_end.TxnEnd.TheVariants as E
use Rattle.ts_link.specs.Counts.{Counted}
use Rattle.ts_link.specs.Link.{Look}
use Rattle.ts_link.specs.declared.link.Link as link
use Rattle.ts_upstream.specs.declared.upstream.Upstream as upstream
use Rattle.ts_phases.specs.Causes.{HasCause, HasCounts, StandsForCause}
use Rattle.ts_phases.specs.Holding.{StepKeeps}
use Rattle.ts_phases.specs.View.{LinkSide, View, view_of}
use Rattle.ts_phases.specs.declared.parts.Core.{Core}
use Rattle.ts_phases.specs.declared.phase.Phase.TheVariants as P
use Rattle.ts_phases.proofs.Causes.{KeepsCounts, cause_kept, counted_on, counts_kept, failed_now}
use Rattle.ts_relay.specs.BodyLinks.{MindsBody, RestLeads, SendsRest, is_client_fault, is_origin_fault}
use Rattle.ts_relay.specs.Entering.{CallsNeither}
use Rattle.ts_relay.specs.declared.last_writes.BodyStep.{BodyStep}
use Rattle.ts_relay.specs.declared.last_writes.BodyStep.TheVariants as S
use Rattle.ts_relay.specs.declared.relay.Relay.{Relay}
use Rattle.ts_txn.specs.Course.{StandsForCauseOn, course_after, finish_after}
use Rattle.ts_txn.specs.CourseCover.{StaysOnOrLacks}
use Rattle.ts_txn.specs.declared.course.Course.{Course}
use Rattle.ts_txn.specs.declared.course.Course.TheVariants as K

-- wherever it is, neither link has forgotten a fault
pub counts_on : {Q : Type 0} (v : View) (course : Course Q) → StandsForCauseOn v course → HasCounts v
counts_on v (K.Phased p) stood = stood.counts
counts_on v (K.Relaying r) stood = stood
counts_on v (K.Finishing end) stood = stood.0

-- it may end for want of memory wherever it is, and so where its next event is set
lacks_cause : (v : View) → HasCounts v → StandsForCause v (P.Ended E.NoMemory)
lacks_cause v counts = record { counts = counts; ends = tt }

pub cause_stays : {Q : Type 0} (v : View) (led new : Course Q) → StandsForCauseOn v led
    → StaysOnOrLacks led new → StandsForCauseOn v new
cause_stays v led new stood (inl same) = subst (λ x. StandsForCauseOn v x) (sym same) stood
cause_stays v led new stood (inr lacks) = subst (λ x. StandsForCauseOn v x) (sym lacks)
    (lacks_cause v (counts_on v led stood))

-- ---- an event of a body

module _ {C O : Type 0} (client : link.Ghosts C) (origin : link.Ghosts O) (both : upstream.Ghosts O C)
    (s t : Core C O) (keeps : StepKeeps client origin both s t) where
  abbrev v : View
  v = view_of client origin s

  abbrev w : View
  w = view_of client origin t

  -- no count fell that rose at its faults alone
  kept_by : (failed lost : Bool) → Counted failed v.client.look.faults w.client.look.faults
      → Counted lost v.origin.look.faults w.origin.look.faults → KeepsCounts v w
  kept_by failed lost client_counted origin_counted = record {
    client = record {
      base = keeps.client_base;
      faults = counted_on failed v.client.look.faults w.client.look.faults client_counted;
    };
    origin = record {
      base = keeps.origin_base;
      faults = counted_on lost v.origin.look.faults w.origin.look.faults origin_counted;
    };
  }

  module _ (has : HasCounts v) where
    -- the end behind a step of a body, by the links whose faults rose
    finishes_cause : (end : TxnEnd) (k : KeepsCounts v w)
        → Counted (is_client_fault (S.Finishes end)) v.client.look.faults w.client.look.faults
        → Counted (is_origin_fault (S.Finishes end)) v.origin.look.faults w.origin.look.faults
        → HasCause w end
    finishes_cause E.ClientFault k rose other = failed_now v.client w.client k.client rose has.client
    finishes_cause E.OriginFault k other rose = failed_now v.origin w.origin k.origin rose has.origin
    finishes_cause _ k client_counted origin_counted = tt

    closes_cause : (end : TxnEnd) (k : KeepsCounts v w)
        → Counted (is_client_fault (S.Closes end)) v.client.look.faults w.client.look.faults
        → Counted (is_origin_fault (S.Closes end)) v.origin.look.faults w.origin.look.faults
        → HasCause w end
    closes_cause E.ClientFault k rose other = failed_now v.client w.client k.client rose has.client
    closes_cause E.OriginFault k other rose = failed_now v.origin w.origin k.origin rose has.origin
    closes_cause _ k client_counted origin_counted = tt

    pub body_cause : {Q : Type 0} (ct ot : Bool) (q r : Relay Q) (step : BodyStep)
        (client_late origin_late : Bool) → MindsBody ct ot v w q r step client_late origin_late
        → StandsForCauseOn w (course_after r step)
    body_cause ct ot q r step client_late origin_late minds = by_step step minds.client.faults
        minds.origin.faults
      where
        by_step : (step : BodyStep)
            → Counted (is_client_fault step) v.client.look.faults w.client.look.faults
            → Counted (is_origin_fault step) v.origin.look.faults w.origin.look.faults
            → StandsForCauseOn w (course_after r step)
        by_step S.Goes of_client of_origin = counts_kept v w (kept_by false false of_client of_origin) has
        by_step S.Waits of_client of_origin = counts_kept v w (kept_by false false of_client of_origin) has
        by_step (S.Finishes end) of_client of_origin =
            let k = kept_by (is_client_fault (S.Finishes end)) (is_origin_fault (S.Finishes end)) of_client
            of_origin in
            (counts_kept v w k has, finishes_cause end k of_client of_origin)
        by_step (S.Closes end) of_client of_origin =
            let k = kept_by (is_client_fault (S.Closes end)) (is_origin_fault (S.Closes end)) of_client
            of_origin in
            record { counts = counts_kept v w k has; ends = closes_cause end k of_client of_origin }
        by_step S.Lacks of_client of_origin = record {
          counts = counts_kept v w (kept_by false false of_client of_origin) has;
          ends = tt;
        }

    -- no call was made on either link
    calm_kept : CallsNeither v w → KeepsCounts v w
    calm_kept calls = kept_by false false (ap (λ (l : Look). l.faults) calls.client)
        (ap (λ (x : LinkSide). x.look.faults) calls.origin)

    -- a body begins, or memory lacks for that
    pub enters_cause : CallsNeither v w → HasCounts w
    enters_cause calls = counts_kept v w (calm_kept calls) has

    pub begun_cause : {Q : Type 0} (r : Relay Q) (new : Course Q) → CallsNeither v w
        → (new ≡ K.Relaying r) ⊎ (new ≡ K.Phased (P.Ended E.NoMemory)) → StandsForCauseOn w new
    begun_cause r new calls led = cause_stays w (K.Relaying r) new (enters_cause calls) led

    -- one of the last writes
    pub write_cause : (Q : Type 0) (ct : Bool) (end : TxnEnd) (step : BodyStep) → HasCause v end
        → SendsRest ct end v w step → StandsForCauseOn {Q = Q} w (finish_after end step)
    write_cause Q ct end step cause sends = by_step step sends.leads
      where
        still : Counted false v.origin.look.faults w.origin.look.faults
        still = ap (λ (x : View). x.origin.look.faults) sends.others

        stays : Counted false v.client.look.faults w.client.look.faults
            → HasCounts w × HasCause w end
        stays of_client =
            let k = kept_by false false of_client still in
            (counts_kept v w k has, cause_kept v w k end cause)

        by_step : (step : BodyStep) → RestLeads end v.client w.client step
            → StandsForCauseOn {Q = Q} w (finish_after end step)
        by_step S.Goes calls = stays calls.faults
        by_step S.Waits calls = stays calls.faults
        by_step (S.Finishes other) leads = absurd leads
        by_step (S.Closes other) (inl (same, none, calls)) =
            let on = stays calls.faults in
            record { counts = on.0; ends = subst (λ (e : TxnEnd). HasCause w e) (sym same) on.1 }
        by_step (S.Closes other) (inr (same, calls)) =
            let k = kept_by true false calls.faults still in
            record {
              counts = counts_kept v w k has;
              ends = subst (λ (e : TxnEnd). HasCause w e) (sym same)
                  (failed_now v.client w.client k.client calls.faults has.client);
            }
        by_step S.Lacks calls = record { counts = (stays calls.faults).0; ends = tt }
