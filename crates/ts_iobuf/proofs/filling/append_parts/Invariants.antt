-- There is room for the parts that are left, and with them the bytes are what was to come.
use Rattle.std.proofs.Common.{◌≡◌, ◌+◌, ◌≤◌, ◌++◌, length, drop, vec_len, vec_capacity}
use Rattle.std.specs.List.{flat_map}
use Rattle.ts_iobuf.proofs.filling.append_parts.Given as goal

abbrev pub invariant-loop-part : goal.invariant-loop-part
invariant-loop-part l = record {
  room : vec_len l.filling + length (flat_map (λ p. p.now) (drop l.part-index l.parts))
      ≤ vec_capacity l.filling;
  bytes : l.filling.items ++ flat_map (λ p. p.now) (drop l.part-index l.parts)
      ≡ l.initial.filling.items ++ flat_map (λ p. p.now) l.parts;
}
