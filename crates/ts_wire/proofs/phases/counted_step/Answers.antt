use Rattle.std.proofs.Common.{refl}
use Rattle.ts_wire.proofs.StepLemmas.{counted_stays, counted_ends}
use Rattle.ts_wire.proofs.phases.counted_step.Goals as goal

pub returns-then-rest-eq0 : goal.returns-then-rest-eq0
returns-then-rest-eq0 c =
    counted_ends c.args.held.now c.args.bytes.now c.args.total c.args.left _ _ c.body_step.ensures c.requires
    c.part_of-n.ensures c.if-rest-eq0.true

pub returns : goal.returns
returns c =
    counted_stays c.args.held.now c.args.bytes.now c.args.total c.args.left _ _ _ c.body_step-2.ensures
    c.requires c.part_of-n.ensures refl c.if-rest-eq0.false
