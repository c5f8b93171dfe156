use Rattle.std.proofs.Common.{◌≡◌, ◌++◌, drop}
use Rattle.ts_record.specs.Grammar.{contents, txns_text, text_of}
use Rattle.ts_record.proofs.print.print_txns.Given as goal

-- what was printed and the transactions that were not passed are the whole text
abbrev pub invariant-loop-txn : goal.invariant-loop-txn
invariant-loop-txn l =
    l.out.items ++ txns_text (drop l.txn-index l.txns) ≡ text_of (contents l.version l.txns)
