-- No link that was added was used.
use Rattle.std.specs.List.{All}
use Rattle.ts_txn.specs.PairStock.{IsNewPair}
use Rattle.ts_mem_nets.proofs.net.pairs_of.Given as goal

abbrev pub invariant-loop-visit : goal.invariant-loop-visit
invariant-loop-visit l = All IsNewPair l.pairs.items
