use Rattle.std.proofs.Common.{◌≡◌, take, fold}
use Rattle.std.specs.Prelude.{codes, flat_map}
use Rattle.ts_wire.specs.declared.framing.TransferCoding.TheVariants.{Absent}
use Rattle.ts_wire.specs.FieldList.{value_in}
use Rattle.ts_wire.specs.Framing.{add_coding}
use Rattle.ts_wire.proofs.framing.coding_of.Given as goal

abbrev pub invariant-loop-field : goal.invariant-loop-field
invariant-loop-field l =
    l.coding ≡ fold add_coding Absent (flat_map (value_in (codes "transfer-encoding"))
    (take l.field-index l.field-items))
