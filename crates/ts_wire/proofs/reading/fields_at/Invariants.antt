use Rattle.std.proofs.Common.{◌≡◌, map, take}
use Rattle.ts_wire.specs.Heads.{span_field}
use Rattle.ts_wire.proofs.reading.fields_at.Given as goal

abbrev pub invariant-loop-header : goal.invariant-loop-header
invariant-loop-header l = l.fields ≡ map (span_field l.text) (take l.header-index l.headers)
