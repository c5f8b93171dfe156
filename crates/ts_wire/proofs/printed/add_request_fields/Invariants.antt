use Rattle.std.proofs.Common.{◌≡◌, ◌++◌, take}
use Rattle.std.specs.Prelude.{flat_map}
use Rattle.ts_wire.specs.Printed.{request_field_text}
use Rattle.ts_wire.proofs.printed.add_request_fields.Given as goal

abbrev pub invariant-loop-field : goal.invariant-loop-field
invariant-loop-field l =
    l.out.items ≡ l.initial.out.items ++ flat_map (request_field_text l.absolute l.host)
    (take l.field-index l.fields)
