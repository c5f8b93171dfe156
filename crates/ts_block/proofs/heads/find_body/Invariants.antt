-- A front of the bytes was fed, and the rest is left.
use Rattle.std.proofs.Common.{length}
use Rattle.ts_block.specs.Reading.{HasFed}
use Rattle.ts_block.proofs.heads.find_body.Given as goal

abbrev pub invariant-loop-body : goal.invariant-loop-body
invariant-loop-body l = HasFed l.fn.framing l.bytes l.body.items l.rest l.reader

abbrev pub decreases-loop-body : goal.decreases-loop-body
decreases-loop-body l = length l.rest
