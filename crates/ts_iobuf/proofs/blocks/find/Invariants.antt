-- What is ahead from the block of this index on is what was to be found.
use Rattle.std.proofs.Common.{◌≡◌, ℕ, List, ◌++◌, drop}
use Rattle.ts_iobuf.specs.Buffer.{blocks_after}
use Rattle.ts_iobuf.proofs.blocks.find.Given as goal

abbrev pub invariant-loop-index : goal.invariant-loop-index
invariant-loop-index l = (more : List (List ℕ)) →
    blocks_after l.offset (drop l.index l.blocks.items ++ more) ≡ blocks_after l.at (l.blocks.items ++ more)
