use Rattle.std.proofs.Common.{◌≡◌, take}
use Rattle.ts_config.specs.Bodies.{mapped}
use Rattle.ts_stock.proofs.mapping.map_into.Given as goal

-- the front of the room is the front of the input, mapped
abbrev pub invariant-loop-i : goal.invariant-loop-i
invariant-loop-i l = take l.i l.room ≡ mapped l.from l.to (take l.i l.input)
