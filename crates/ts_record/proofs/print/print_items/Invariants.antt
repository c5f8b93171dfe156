use Rattle.std.proofs.Common.{◌≡◌, List, ◌++◌, ℕ, drop}
use Rattle.ts_record.specs.Grammar.{items_before}
use Rattle.ts_record.proofs.print.print_items.Given as goal

-- what was printed and the pieces and stalls that were not passed are all of them
abbrev pub invariant-loop-item : goal.invariant-loop-item
invariant-loop-item l = (behind : List ℕ) →
    l.out.items ++ items_before l.side behind (drop l.item-index l.items) ≡ l.initial.out.items
    ++ items_before l.side behind l.items
