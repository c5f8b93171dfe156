use Rattle.std.proofs.Common.{◌≡◌, take, fold}
use Rattle.std.specs.Prelude.{codes, flat_map}
use Rattle.ts_wire.specs.declared.framing.ContentLength.TheVariants.{Absent}
use Rattle.ts_wire.specs.FieldList.{members_in}
use Rattle.ts_wire.specs.Framing.{add_length}
use Rattle.ts_wire.proofs.framing.length_of.Given as goal

abbrev pub invariant-loop-field : goal.invariant-loop-field
invariant-loop-field l =
    l.length ≡ fold add_length Absent (flat_map (members_in (codes "content-length"))
    (take l.field-index l.field-items))
