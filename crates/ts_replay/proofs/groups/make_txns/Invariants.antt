-- Each transaction that was passed has a group in the row.
use Rattle.std.specs.Prelude.{length}
use Rattle.std.specs.Arc.{arc_value}
use Rattle.ts_replay.proofs.Rows.{RowBut}
use Rattle.ts_replay.proofs.groups.make_txns.Given as goal

-- all transactions but those that are left have a group
abbrev pub invariant-txns : goal.invariant-txns
invariant-txns l = RowBut (arc_value l.setup) (length l.fn.txns.items) l.fn.txns.items l.rest.items l.number
    l.tags.items l.groups.items

abbrev pub decreases-txns : goal.decreases-txns
decreases-txns l = length l.rest.items
