use Rattle.std.proofs.Common.{◌≡◌, ◌++◌, ◌-◌}
use Rattle.ts_record.specs.Generator.{generated}
use Rattle.ts_record.proofs.generator.generate.Given as goal

-- the transactions so far and those that are still to be drawn are all transactions
abbrev pub invariant-txns : goal.invariant-txns
invariant-txns l =
    l.txns.items ++ generated (l.count - l.counter) l.size l.draws.state ≡ generated l.count l.size l.seed
