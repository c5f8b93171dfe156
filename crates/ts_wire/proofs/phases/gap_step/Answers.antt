use Rattle.std.proofs.Common.{arith, refl}
use Rattle.std.proofs.lemmas.Bool.Decides.{nat_tests}
use Rattle.ts_wire.specs.declared.phases.BodyPhase.TheVariants.{Gap}
use Rattle.ts_wire.proofs.StepLemmas.{none_stays, gap_bad, gap_cr, gap_bad_after, gap_crlf}
use Rattle.ts_wire.proofs.phases.gap_step.Goals as goal

pub returns-then-is_empty : goal.returns-then-is_empty
returns-then-is_empty c =
    none_stays Gap c.args.held.now c.args.bytes.now c.args.total _ c.frame_step.ensures refl
    (grind (arith, nat_tests)) (omega arith) c.requires

pub returns-then-bytes-ne13 : goal.returns-then-bytes-ne13
returns-then-bytes-ne13 c =
    gap_bad c.args.held.now c.args.bytes.now c.args.total _ c.frame_step-then-bytes-ne13.ensures c.requires
    (grind (arith, nat_tests)) c.if-bytes-ne13.true

pub returns-then-bytes-eq1 : goal.returns-then-bytes-eq1
returns-then-bytes-eq1 c =
    gap_cr c.args.held.now c.args.bytes.now c.args.total _ c.frame_step-then-bytes-eq1.ensures c.requires
    (grind (arith, nat_tests)) c.if-bytes-ne13.false

pub returns-then-bytes-ne10 : goal.returns-then-bytes-ne10
returns-then-bytes-ne10 c =
    gap_bad_after c.args.held.now c.args.bytes.now c.args.total _ c.frame_step-then-bytes-ne10.ensures
    c.requires (grind (arith, nat_tests)) c.if-bytes-ne10.true

pub returns : goal.returns
returns c =
    gap_crlf c.args.held.now c.args.bytes.now c.args.total _ c.frame_step-2.ensures c.requires
    (grind (arith, nat_tests)) c.if-bytes-ne13.false c.if-bytes-ne10.false
