use Rattle.std.proofs.Common.{◌≡◌, ◌++◌, take}
use Rattle.ts_wire.specs.Printed.{fields_text}
use Rattle.ts_wire.proofs.printed.add_fields.Given as goal

abbrev pub invariant-loop-field : goal.invariant-loop-field
invariant-loop-field l = l.out.items ≡ l.initial.out.items ++ fields_text (take l.field-index l.fields)
