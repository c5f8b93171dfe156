-- The blocks after the bytes that are left to drop are those after all, and there is a block less each time.
use Rattle.std.proofs.Common.{◌≡◌, ◌-◌, length}
use Rattle.std.specs.VecDeque.{deque_len}
use Rattle.ts_iobuf.specs.Buffer.{blocks_after}
use Rattle.ts_iobuf.specs.Stored.{joined}
use Rattle.ts_iobuf.proofs.blocks.pass.Given as goal

abbrev pub invariant-loop-first : goal.invariant-loop-first
invariant-loop-first l = record {
  blocks : blocks_after l.left l.blocks.items ≡ blocks_after l.n l.initial.blocks.items;
  left : l.left - length (joined l.blocks.items) ≡ l.n - length (joined l.initial.blocks.items);
}

abbrev pub decreases-loop-first : goal.decreases-loop-first
decreases-loop-first l = deque_len l.blocks
