-- The steps at which nothing moves lower what is left to do.
use Rattle.std.proofs.Common.{ℕ, Bool, false, refl}
use Rattle.std.specs.Prelude.{Option}
use Rattle.ts_config.specs.declared.setup.Setup.{Setup}
use Rattle.ts_hooks.specs.declared.txn_end.TxnEnd.{TxnEnd}
use Rattle.ts_wire.specs.declared.heads.ResponseHead.{ResponseHead}
use Rattle.ts_phases.specs.Holding.{IfTold}
use Rattle.ts_phases.specs.Lowering.{StepLowers}
use Rattle.ts_phases.specs.View.{View}
use Rattle.ts_phases.specs.declared.phase.Next.TheVariants as N
use Rattle.ts_phases.specs.declared.phase.OwnAnswer.{OwnAnswer}
use Rattle.ts_phases.specs.declared.phase.Phase.{Phase}
use Rattle.ts_phases.specs.declared.phase.Phase.TheVariants as P
use Rattle.ts_phases.specs.declared.phase.Request.{Request}
use Rattle.ts_phases.proofs.Lowering.{none_rise}
use Rattle.ts_phases.proofs.LoweringSteps.{begins, request_goes, request_read, response_passed, started}
use Rattle.ts_phases.proofs.LoweringSteps.{stays_calm, to_end, to_own}

module _ (ct ot : Bool) (setup : Setup) (v : View) (u : Option ℕ) where
  pub still_end : (p : Phase) (end : TxnEnd) → IfTold ct ot (StepLowers setup p u u v v
      (record { phase = P.Ended end; next = N.Done }))
  still_end p end told also = to_end setup false 0 v v u u (stays_calm setup v v refl) (none_rise u) p end

  pub own_lowers : (q : Request) (place : ℕ) (a : OwnAnswer) → IfTold ct ot
      (StepLowers setup (P.OsDns q place) u u v v (record { phase = P.SendResponseHdr a; next = N.Go }))
  own_lowers q place a told also = to_own setup false 0 v v u u (stays_calm setup v v refl) (none_rise u)
      (P.OsDns q place) a tt

  pub allowed_lowers : (q : Request) (place : ℕ) → IfTold ct ot (StepLowers setup (P.OsDns q place) u u v v
      (record { phase = P.SendRequestHdr q; next = N.Go }))
  allowed_lowers q place told also = request_goes setup v u q place

  pub fresh_lowers : IfTold ct ot (StepLowers setup P.Fresh u u v v
      (record { phase = P.TxnStart; next = N.Go }))
  fresh_lowers told also = begins setup v u

  pub start_lowers : IfTold ct ot (StepLowers setup P.TxnStart u u v v
      (record { phase = P.ReadRequest; next = N.Go }))
  start_lowers told also = started setup v u

  pub checked_lowers : (q : Request) → IfTold ct ot (StepLowers setup (P.ReadRequestHdr q) u u v v
      (record { phase = P.OsDns q 0; next = N.Go }))
  checked_lowers q told also = request_read setup v u q

  pub heard_lowers : (q : Request) (h : ResponseHead) → IfTold ct ot
      (StepLowers setup (P.ReadResponseHdr q h) u u v v (record
      { phase = P.ResponseTransform q h; next = N.Go }))
  heard_lowers q h told also = response_passed setup false 0 v v u u (stays_calm setup v v refl) (none_rise u)
      q h
