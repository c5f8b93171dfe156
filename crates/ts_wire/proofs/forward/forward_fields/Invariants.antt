use Rattle.std.proofs.Common.{◌≡◌, take, filter}
use Rattle.ts_wire.specs.Forward.{is_forwarded}
use Rattle.ts_wire.proofs.forward.forward_fields.Given as goal

abbrev pub invariant-loop-field : goal.invariant-loop-field
invariant-loop-field l = l.kept ≡ filter (is_forwarded l.all) (take l.field-index l.all)
