-- One slot more is lowered.
use Rattle.ts_iobuf.proofs.Places.{lowered_more}
use Rattle.ts_iobuf.proofs.readers.lower.Goals as goal

pub loop-slot-preserved : goal.loop-slot-preserved
loop-slot-preserved c =
    lowered_more c.args.by c.args.slots.now c.loop-slot.slots c.loop-slot.slot-index c.lower_one.result _
    c.loop-slot-test.true c.loop-slot.auto.slots c.loop-slot.invariant c.lower_one.ensures
