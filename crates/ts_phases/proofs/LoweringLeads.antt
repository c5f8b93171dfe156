-- Where the answer of an upload leads, what is left to do is less, if both links tell.
use Rattle.std.proofs.Common.{ℕ, List, Bool, true, false, arith, sym, subst}
use Rattle.std.specs.Prelude.{Option, Some, None}
use Rattle.ts_config.specs.declared.setup.Setup.{Setup}
use Rattle.ts_hooks.specs.declared.txn_end.TxnEnd.TheVariants as E
use Rattle.ts_link.specs.Link.{Fewer, NoMore}
use Rattle.ts_upstream.specs.declared.upstream.Uploaded.{Uploaded}
use Rattle.ts_upstream.specs.declared.upstream.Uploaded.TheVariants as U
use Rattle.ts_phases.specs.Holding.{IfTold}
use Rattle.ts_phases.specs.View.{View}
use Rattle.ts_phases.specs.Moving.{LowersUpload, MovesUpload}
use Rattle.ts_phases.specs.Steps.{AnswersOriginFault, AnswersRefusal, ClosesForClientFault, UploadLeads}
use Rattle.ts_phases.specs.Lowering.{StepFalls, StepLowers, work_left}
use Rattle.ts_phases.specs.declared.phase.Next.{Next}
use Rattle.ts_phases.specs.declared.phase.Next.TheVariants as N
use Rattle.ts_phases.specs.declared.phase.Phase.{Phase}
use Rattle.ts_phases.specs.declared.phase.Phase.TheVariants as P
use Rattle.ts_phases.specs.declared.phase.OwnAnswer.{OwnAnswer}
use Rattle.ts_phases.specs.declared.phase.Request.{Request}
use Rattle.ts_phases.specs.declared.phase.Step.{Step}
use Rattle.ts_phases.proofs.LoweringSteps.{to_close, to_end, to_own, upload_done}
use Rattle.ts_phases.proofs.LoweringUpload.{not_risen, upload_calm, uploads_again, uploads_more}

-- what fell has not risen
not_more : (m m' : Option ℕ) → Fewer m m' → NoMore m m'
not_more None m' fell = tt
not_more (Some x) None fell = absurd fell
not_more (Some x) (Some x') fell = omega (arith, fell)

falls_by : (n : Next) (m m' : Option ℕ) → Fewer m m' → StepFalls n m m'
falls_by N.Done m m' fell = not_more m m' fell
falls_by _ m m' fell = fell

module _ (setup : Setup) (w : View) (m u' : Option ℕ) where
  -- the close for the client's fault
  closes_by : (p : Phase) → ClosesForClientFault p → Fewer m (work_left setup u' w (P.TxnClose E.ClientFault))
      → Fewer m (work_left setup u' w p)
  closes_by (P.TxnClose end) same fell = subst (λ x. Fewer m (work_left setup u' w (P.TxnClose x))) (sym same)
      fell
  closes_by _ same fell = absurd same

  -- an answer of the proxy's own, after the origin's fault
  answers_by : (p : Phase) → AnswersOriginFault p → ((a : OwnAnswer)
      → Fewer m (work_left setup u' w (P.SendResponseHdr a))) → Fewer m (work_left setup u' w p)
  answers_by (P.SendResponseHdr a) same fell = fell a
  answers_by _ same fell = absurd same

  -- and after a refusal
  refuses_by : (p : Phase) → AnswersRefusal p → ((a : OwnAnswer)
      → Fewer m (work_left setup u' w (P.SendResponseHdr a))) → Fewer m (work_left setup u' w p)
  refuses_by (P.SendResponseHdr a) same fell = fell a
  refuses_by _ same fell = absurd same

module _ (setup : Setup) (refuses : List ℕ → Type 0) (v w : View) (u u' : Option ℕ) (q : Request) (s : Step)
  where
    leads_on : (answer : Uploaded) → MovesUpload true true refuses answer v w → LowersUpload answer u u' v w
        → UploadLeads answer q s → StepLowers setup (P.Upload q) u u' v w s
    leads_on U.Done moves lowers leads = subst (λ (x : Step). StepLowers setup (P.Upload q) u u' v w x)
        (sym leads)
        (upload_done setup false 0 v w u u' (upload_calm setup refuses v w U.Done moves false lowers.1)
        (not_risen u u' lowers.0) q)
    leads_on U.More moves lowers leads = subst (λ (x : Step). StepLowers setup (P.Upload q) u u' v w x)
        (sym leads) (uploads_more setup refuses v w u u' q moves lowers)
    leads_on U.Again moves lowers leads = subst (λ (x : Step). StepLowers setup (P.Upload q) u u' v w x)
        (sym leads) (uploads_again setup refuses v w u u' q moves lowers)
    leads_on U.ClientFailed moves lowers leads = falls_by s.next (work_left setup u v (P.Upload q))
        (work_left setup u' w s.phase)
        (closes_by setup w (work_left setup u v (P.Upload q)) u' s.phase leads
        (to_close setup false 0 v w u u' (upload_calm setup refuses v w U.ClientFailed moves false lowers.1)
        (not_risen u u' lowers.0) (P.Upload q) E.ClientFault tt))
    leads_on U.OriginFailed moves lowers leads = falls_by s.next (work_left setup u v (P.Upload q))
        (work_left setup u' w s.phase)
        (answers_by setup w (work_left setup u v (P.Upload q)) u' s.phase leads
        (λ a. to_own setup false 0 v w u u'
        (upload_calm setup refuses v w U.OriginFailed moves false lowers.1)
        (not_risen u u' lowers.0) (P.Upload q) a tt))
    leads_on U.Refused moves lowers leads = falls_by s.next (work_left setup u v (P.Upload q))
        (work_left setup u' w s.phase)
        (refuses_by setup w (work_left setup u v (P.Upload q)) u' s.phase leads
        (λ a. to_own setup false 0 v w u u'
        (upload_calm setup refuses v w U.Refused moves false lowers.1)
        (not_risen u u' lowers.0) (P.Upload q) a tt))
    leads_on U.NoMemory moves lowers leads = subst (λ (x : Step). StepLowers setup (P.Upload q) u u' v w x)
        (sym leads)
        (to_end setup false 0 v w u u' (upload_calm setup refuses v w U.NoMemory moves false lowers.1)
        (not_risen u u' lowers.0) (P.Upload q) E.NoMemory)

    -- one upload, wherever its answer leads
    pub uploads_by : (ct ot : Bool) (answer : Uploaded) → MovesUpload ct ot refuses answer v w
        → LowersUpload answer u u' v w → UploadLeads answer q s
        → IfTold ct ot (StepLowers setup (P.Upload q) u u' v w s)
    uploads_by ct ot answer moves lowers leads told also =
        leads_on answer (subst (λ (b : Bool). MovesUpload true b refuses answer v w) also
        (subst (λ (b : Bool). MovesUpload b ot refuses answer v w) told moves)) lowers leads
