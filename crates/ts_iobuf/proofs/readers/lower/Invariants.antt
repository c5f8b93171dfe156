-- The slots that were passed are lowered, and the others are as they were.
use Rattle.std.proofs.Common.{◌≡◌, ◌++◌, map, take, drop}
use Rattle.ts_iobuf.specs.Places.{lowered}
use Rattle.ts_iobuf.proofs.readers.lower.Given as goal

abbrev pub invariant-loop-slot : goal.invariant-loop-slot
invariant-loop-slot l = l.slots ≡ map (lowered l.by) (take l.slot-index l.initial.slots) ++ drop l.slot-index
    l.initial.slots
