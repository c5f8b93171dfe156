use Rattle.std.proofs.Common.{◌≡◌, take}
use Rattle.ts_wire.specs.Body.{line_feeds}
use Rattle.ts_wire.proofs.phases.line_feeds.Given as goal

abbrev pub invariant-loop-b : goal.invariant-loop-b
invariant-loop-b l = l.lines ≡ line_feeds (take l.b-index l.text)
