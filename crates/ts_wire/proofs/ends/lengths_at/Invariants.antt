use Rattle.std.proofs.Common.{◌≡◌, take, fold, map}
use Rattle.std.specs.Prelude.{codes, flat_map}
use Rattle.ts_wire.specs.declared.framing.ContentLength.TheVariants.{Absent}
use Rattle.ts_wire.specs.FieldList.{members_in}
use Rattle.ts_wire.specs.Framing.{add_length}
use Rattle.ts_wire.specs.Heads.{span_field}
use Rattle.ts_wire.proofs.ends.lengths_at.Given as goal

abbrev pub invariant-loop-header : goal.invariant-loop-header
invariant-loop-header l =
    l.length ≡ fold add_length Absent (flat_map (members_in (codes "content-length"))
    (map (span_field l.text) (take l.header-index l.headers)))
