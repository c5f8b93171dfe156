-- So many items were copied, and the block is the one that was asked for.
use Rattle.std.proofs.Common.{◌≡◌, take}
use Rattle.std.specs.Prelude.{vec_capacity}
use Rattle.ts_journal.proofs.room.moved.Given as goal

abbrev pub invariant-loop-item : goal.invariant-loop-item
invariant-loop-item g l = (l.moved.items ≡ take l.item-index l.list.items) × (vec_capacity l.moved ≡ l.places)
