use Rattle.std.proofs.Common.{◌≡◌, ◌≤◌, take}
use Rattle.ts_config.specs.Bodies.{without_byte}
use Rattle.ts_stock.proofs.dropping.drop_bytes.Given as goal

-- the filled front of the room is the front of the input, less the byte
abbrev pub invariant-loop-i : goal.invariant-loop-i
invariant-loop-i l = record {
  within : l.filled ≤ l.i;
  bytes : take l.filled l.room ≡ without_byte l.byte (take l.i l.input);
}
