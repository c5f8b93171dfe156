-- What was made is what the line leaves of the bytes that were passed.
use Rattle.std.proofs.Common.{◌≡◌, take}
use Rattle.ts_config.specs.Bodies.{without_byte}
use Rattle.ts_block.proofs.bodies.without_byte.Given as goal

abbrev pub invariant-loop-b : goal.invariant-loop-b
invariant-loop-b l = l.made.items ≡ without_byte l.byte (take l.b-index l.body)
