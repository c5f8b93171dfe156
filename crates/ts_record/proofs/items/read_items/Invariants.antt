use Rattle.std.proofs.Common.{length}
use Rattle.ts_record.proofs.Growing.{AreRead}
use Rattle.ts_record.proofs.items.read_items.Given as goal

abbrev pub invariant-items : goal.invariant-items
invariant-items l = AreRead l.side l.fn.room l.fn.bytes l.items.items l.room l.rest

abbrev pub decreases-items : goal.decreases-items
decreases-items l = length l.rest
