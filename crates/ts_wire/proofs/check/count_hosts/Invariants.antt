use Rattle.std.proofs.Common.{◌≡◌, take}
use Rattle.std.specs.Prelude.{codes}
use Rattle.ts_wire.specs.FieldList.{count_named}
use Rattle.ts_wire.proofs.check.count_hosts.Given as goal

abbrev pub invariant-loop-field : goal.invariant-loop-field
invariant-loop-field l = l.hosts ≡ count_named (codes "host") (take l.field-index l.fields)
