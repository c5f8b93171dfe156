use Rattle.std.proofs.Common.{◌≡◌, take, fold, map}
use Rattle.std.specs.Prelude.{codes, flat_map}
use Rattle.ts_wire.specs.declared.framing.TransferCoding.TheVariants.{Absent}
use Rattle.ts_wire.specs.FieldList.{value_in}
use Rattle.ts_wire.specs.Framing.{add_coding}
use Rattle.ts_wire.specs.Heads.{span_field}
use Rattle.ts_wire.proofs.ends.codings_at.Given as goal

abbrev pub invariant-loop-header : goal.invariant-loop-header
invariant-loop-header l =
    l.coding ≡ fold add_coding Absent (flat_map (value_in (codes "transfer-encoding"))
    (map (span_field l.text) (take l.header-index l.headers)))
