-- The bytes that were counted, with those of the parts that are left, are all.
use Rattle.std.proofs.Common.{◌≡◌, ◌+◌, length, drop}
use Rattle.std.specs.List.{flat_map}
use Rattle.ts_iobuf.proofs.filling.joined_len.Given as goal

abbrev pub invariant-loop-part : goal.invariant-loop-part
invariant-loop-part l =
    l.total + length (flat_map (λ p. p.now) (drop l.part-index l.parts)) ≡ length
    (flat_map (λ p. p.now) l.parts)
