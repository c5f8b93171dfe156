-- The least place of all is that of the slots that are left, or the least so far.
use Rattle.std.proofs.Common.{◌≡◌, drop}
use Rattle.ts_iobuf.specs.Places.{least_place}
use Rattle.ts_iobuf.proofs.readers.least.Given as goal

abbrev pub invariant-loop-slot : goal.invariant-loop-slot
invariant-loop-slot l = least_place (drop l.slot-index l.slots) l.least ≡ least_place l.slots l.most
