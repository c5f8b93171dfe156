use Rattle.std.proofs.Common.{◌≡◌, ◌↔◌, ◌==◌, ◌<◌, length, take, get_or, map, sym, ap, ◌∙◌, subst, arith, w8}
use Rattle.std.specs.Int.{bit_at}
use Rattle.std.specs.Simd.Lanes.{mask_l}
use Rattle.std.proofs.lemmas.List.{take_all}
use Rattle.std.proofs.lemmas.Simd.{bitmask_splat}
use Rattle.ts_stock.proofs.Bits.{bit_of_test}
use Rattle.ts_stock.proofs.places.places_in.Goals as goal

pub returns : goal.returns
returns c k =
    let block = c.args.block.now in
    let byte = c.args.byte in
    let whole : take 64 block ≡ block = take_all 64 block (omega (arith, c.requires)) in
    subst (λ m. (bit_at m k ≡ 1) ↔ ((k < length block) × (get_or block k 0 ≡ byte)))
    (sym (bitmask_splat w8 (λ a b. a == b) (take 64 block) 64 byte (ap length whole
    ∙ c.requires) (omega arith)))
    (subst (λ xs. (bit_at (mask_l (map (λ x. x == byte) xs)) k ≡ 1)
    ↔ ((k < length block) × (get_or block k 0 ≡ byte))) (sym whole) (bit_of_test byte block k))
