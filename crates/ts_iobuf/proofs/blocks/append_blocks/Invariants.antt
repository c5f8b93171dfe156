-- What was copied, with what is left of the blocks from this index on, is what was to be copied.
use Rattle.std.proofs.Common.{◌≡◌, ◌+◌, ◌≤◌, ◌++◌, take, drop, vec_len, vec_capacity}
use Rattle.ts_iobuf.specs.Stored.{joined}
use Rattle.ts_iobuf.proofs.blocks.append_blocks.Given as goal

abbrev pub invariant-loop-index : goal.invariant-loop-index
invariant-loop-index l = record {
  room : vec_len l.out + l.left ≤ vec_capacity l.out;
  bytes : l.out.items ++ take l.left (drop l.ahead (joined (drop l.index l.blocks.items) ++ l.front))
      ≡ l.initial.out.items ++ take l.most (drop l.at (joined l.blocks.items ++ l.front));
}
