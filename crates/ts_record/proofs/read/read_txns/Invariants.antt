use Rattle.std.proofs.Common.{length}
use Rattle.ts_record.specs.Refusing.{AreDone}
use Rattle.ts_record.proofs.read.read_txns.Given as goal

abbrev pub invariant-txns : goal.invariant-txns
invariant-txns l = AreDone l.version l.txns.items l.room l.bytes l.rest

abbrev pub decreases-txns : goal.decreases-txns
decreases-txns l = length l.rest
