-- No link that was added was used.
use Rattle.std.specs.List.{All}
use Rattle.ts_txn.specs.PairStock.{IsNewPair}
use Rattle.ts_mishap_tests.proofs.nets.pairs_of.Given as goal

abbrev pub invariant-loop-row : goal.invariant-loop-row
invariant-loop-row l = All IsNewPair l.pairs.items
