-- So many values were put into places.
use Rattle.std.proofs.Common.{◌≡◌, map}
use Rattle.std.specs.Prelude.{Some}
use Rattle.ts_slot.proofs.slots.placed.Given as goal

abbrev pub invariant-loop-value : goal.invariant-loop-value
invariant-loop-value g l = l.places.items ≡ map Some l.yielded
