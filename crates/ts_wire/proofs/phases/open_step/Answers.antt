use Rattle.ts_wire.proofs.StepLemmas.{open_stays, open_bad}
use Rattle.ts_wire.proofs.phases.open_step.Goals as goal

pub returns-then-n-bytes : goal.returns-then-n-bytes
returns-then-n-bytes c =
    open_stays c.args.held.now c.args.bytes.now c.args.total _ _ c.body_step.ensures c.requires
    c.part_of-n.ensures c.if-n-bytes.true

pub returns : goal.returns
returns c = open_bad c.args.held.now c.args.bytes.now c.args.total _ c.requires c.part_of-n.ensures
    c.if-n-bytes.false
