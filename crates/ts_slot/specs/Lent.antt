-- A turn after a write to its value.
use Rattle.std.specs.Box.{with_value as box_with}
use Rattle.ts_slot.specs.declared.seat.Turn.{Turn}
use Rattle.ts_journal.specs.declared.slotted.Slotted.{Ghosts}

abbrev pub with_value : {X G T : Type 0} {d : Ghosts X G T} → Turn X G T d → X → Turn X G T d
with_value t x = record t { boxed = box_with t.boxed x }
