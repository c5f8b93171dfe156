-- What was made is what the line makes of the bytes that were passed.
use Rattle.std.proofs.Common.{◌≡◌, take}
use Rattle.ts_config.specs.Bodies.{mapped}
use Rattle.ts_block.proofs.bodies.mapped.Given as goal

abbrev pub invariant-loop-b : goal.invariant-loop-b
invariant-loop-b l = l.made.items ≡ mapped l.from l.to (take l.b-index l.body)
