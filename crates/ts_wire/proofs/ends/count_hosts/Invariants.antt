use Rattle.std.proofs.Common.{◌≡◌, take, map}
use Rattle.std.specs.Prelude.{codes}
use Rattle.ts_wire.specs.FieldList.{count_named}
use Rattle.ts_wire.specs.Heads.{span_field}
use Rattle.ts_wire.proofs.ends.count_hosts.Given as goal

abbrev pub invariant-loop-header : goal.invariant-loop-header
invariant-loop-header l = l.hosts ≡ count_named (codes "host") (map (span_field l.text) (take l.header-index l.headers))
