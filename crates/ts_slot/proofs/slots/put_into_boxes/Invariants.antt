-- So many values were put into boxes.
use Rattle.std.proofs.Common.{◌≡◌, map}
use Rattle.std.specs.Prelude.{box_value}
use Rattle.ts_slot.proofs.slots.put_into_boxes.Given as goal

abbrev pub invariant-loop-value : goal.invariant-loop-value
invariant-loop-value g l = map box_value l.boxes.items ≡ l.yielded
