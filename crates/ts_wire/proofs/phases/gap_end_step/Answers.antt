use Rattle.std.proofs.Common.{arith, refl}
use Rattle.std.proofs.lemmas.Bool.Decides.{nat_tests}
use Rattle.ts_wire.specs.declared.phases.BodyPhase.TheVariants.{GapEnd}
use Rattle.ts_wire.proofs.StepLemmas.{none_stays, gap_end_bad, gap_end_lf}
use Rattle.ts_wire.proofs.phases.gap_end_step.Goals as goal

pub returns-then-is_empty : goal.returns-then-is_empty
returns-then-is_empty c =
    none_stays GapEnd c.args.held.now c.args.bytes.now c.args.total _ c.frame_step.ensures refl
    (grind (arith, nat_tests)) (omega arith) c.requires

pub returns-then-bytes-ne10 : goal.returns-then-bytes-ne10
returns-then-bytes-ne10 c =
    gap_end_bad c.args.held.now c.args.bytes.now c.args.total _ c.frame_step-then-bytes-ne10.ensures
    c.requires (grind (arith, nat_tests)) c.if-bytes-ne10.true

pub returns : goal.returns
returns c =
    gap_end_lf c.args.held.now c.args.bytes.now c.args.total _ c.frame_step-2.ensures c.requires
    (grind (arith, nat_tests)) c.if-bytes-ne10.false
