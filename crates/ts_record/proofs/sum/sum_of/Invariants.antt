use Rattle.std.proofs.Common.{◌≡◌, drop}
use Rattle.ts_record.specs.Sum.{sum_of}
use Rattle.ts_record.proofs.sum.sum_of.Given as goal

-- the sum so far with the bytes that are left is the sum with all of them
abbrev pub invariant-loop-byte : goal.invariant-loop-byte
invariant-loop-byte l = sum_of l.sum (drop l.byte-index l.bytes) ≡ sum_of l.before l.bytes
