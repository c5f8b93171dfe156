-- What was added, with what is left of the blocks from this index on, is what was to be added.
use Rattle.std.proofs.Common.{◌≡◌, ◌≤◌, ◌++◌, take, drop}
use Rattle.std.specs.VecDeque.{deque_len}
use Rattle.ts_iobuf.specs.Stored.{AreFull, joined}
use Rattle.ts_iobuf.proofs.blocks.push_parts.Given as goal

abbrev pub invariant-loop-index : goal.invariant-loop-index
invariant-loop-index l = record {
  bytes : joined l.blocks.items ++ take l.left (drop l.ahead (joined (drop l.index l.from.items) ++ l.front))
      ≡ joined l.initial.blocks.items ++ take l.most (drop l.at (joined l.from.items ++ l.front));
  front : take (deque_len l.initial.blocks) l.blocks.items ≡ l.initial.blocks.items;
  long : deque_len l.initial.blocks ≤ deque_len l.blocks;
  full : AreFull l.initial.blocks.items → AreFull l.blocks.items;
}
