-- A transaction that was asked does nothing.
use Rattle.ts_group.proofs.Grows.{grows_refl}
use Rattle.ts_txn.proofs.txn.TxnWorld.asked.Goals as goal

pub returns-clause-grows : goal.returns-clause-grows
returns-clause-grows g c = grows_refl _
