-- The places of a byte in a block, as the bits of a number.
use Rattle.std.proofs.Common.{◌≡◌, ◌≢◌, ◌↔◌, ◌==◌, ℕ, zero, suc, ◌+◌, ◌-◌, ◌*◌, ◌%◌, ◌^◌, ◌<◌, ◌≤◌, Bool, true, false, cond, List, [], ◌∷◌, length, get_or, map, take, drop, inl, inr, refl, sym, ◌∙◌, ap, subst, arith, w64, bit_and}
use Rattle.std.specs.Int.{bit_at, bit_not}
use Rattle.std.specs.Simd.Lanes.{mask_l}
use Rattle.std.proofs.lemmas.Simd.{bit_mask_l}
use Rattle.std.proofs.lemmas.Bool.{false≢true, eqb-true, eq-eqb, cases_lt}
use Rattle.std.proofs.lemmas.List.{get_or-take, get_or-drop, length-take-le, length-drop}
use Rattle.std.proofs.lemmas.Nat.Bits.{bit_at_clear_other, bit_at_clear_same, bit_at_and, bit_at-lt, bit_at_above, and_pow}
use Rattle.std.proofs.lemmas.Nat.{and-not, and_comm}
use Rattle.ts_stock.specs.Dropping.{ArePlaces, IsFreeOf}
use Rattle.std.proofs.Common.{pow_pos, pow_mono}
use Rattle.std.proofs.Math.Nat.{two-pow-succ}

-- the test of each byte, place by place
tested : (byte : ℕ) (block : List ℕ) (k : ℕ) → (get_or (map (λ x. x == byte) block) k false ≡ true)
    ↔ ((k < length block) × (get_or block k 0 ≡ byte))
tested byte [] k = (λ e. absurd (false≢true e), λ h. absurd (omega (arith, h.0)))
tested byte (x ∷ block) zero = (λ e. (omega arith, eqb-true x byte e), λ h. eq-eqb x byte h.1)
tested byte (x ∷ block) (suc k) =
    let rest = tested byte block k in
    (λ e. (omega (arith, (rest.0 e).0), (rest.0 e).1), λ h. rest.1 (omega (arith, h.0), h.1))

bit_tells : (bit : Bool) → (cond {A = ℕ} bit 1 0 ≡ 1) ↔ (bit ≡ true)
bit_tells true = (λ e. refl, λ e. refl)
bit_tells false = (λ e. absurd (omega (arith, e)), λ e. absurd (false≢true e))

-- a bit of the mask of the tests
pub bit_of_test : (byte : ℕ) (block : List ℕ) (k : ℕ)
    → (bit_at (mask_l (map (λ x. x == byte) block)) k ≡ 1) ↔ ((k < length block) × (get_or block k 0 ≡ byte))
bit_of_test byte block k =
    let e = bit_mask_l (map (λ x. x == byte) block) k in
    let told = bit_tells (get_or (map (λ x. x == byte) block) k false) in
    let at = tested byte block k in
    (λ h. at.0 (told.0 (sym e ∙ h)), λ h. e ∙ told.1 (at.1 h))

-- the mask less one bit
abbrev pub less_bit : (mask place : ℕ) → ℕ
less_bit mask place = bit_and mask (bit_not w64 (1 * 2 ^ place % 2 ^ 64))

-- a mask is less without a bit that was set
pub less_smaller : (mask place : ℕ) → mask < 2 ^ 64 → place < 64 → bit_at mask place ≡ 1
    → less_bit mask place < mask
less_smaller mask k fits within there =
    let small : 2 ^ k < 2 ^ 64 =
    omega (arith, two-pow-succ k, pow_pos k, pow_mono {i = suc k} {j = 64} (omega (arith, within))) in
    let one : 1 * 2 ^ k % 2 ^ 64 ≡ 2 ^ k = omega (arith, small) in
    let parts = and-not 64 (2 ^ k) mask small fits in
    let same : bit_and (2 ^ k) mask ≡ 1 * 2 ^ k = and_comm _ _ ∙ and_pow mask k ∙ ap (λ x. x * 2 ^ k) there in
    subst (λ x. bit_and mask (2 ^ 64 - 1 - x) < mask) (sym one)
    (omega (arith, parts, same, and_comm mask (2 ^ 64 - 1 - 2 ^ k), pow_pos k))

-- a mask without one of its bits has all the others
pub less_others : (mask place : ℕ) → mask < 2 ^ 64 → place < 64 → bit_at mask place ≡ 1 → (k : ℕ)
    → (bit_at (less_bit mask place) k ≡ 1) ↔ ((bit_at mask k ≡ 1) × (k ≢ place))
less_others mask place fits within there k = (
  λ set. (
    omega (
      arith,
      set,
      bit_at_and mask (bit_not w64 (1 * 2 ^ place % 2 ^ 64)) k,
      bit_at-lt mask k,
      bit_at-lt (bit_not w64 (1 * 2 ^ place % 2 ^ 64)) k,
    ),
    λ same. absurd (omega (
      arith,
      set,
      ap (bit_at (less_bit mask place)) same,
      bit_at_clear_same w64 mask place within,
    )),
  ),
  λ h. elim (cases_lt k 64) [
    | inl below ↦ bit_at_clear_other w64 mask place within k below h.1 ∙ h.0
    | inr above ↦ absurd (omega (arith, h.0, bit_at_above mask 64 k fits above))
  ],
)

-- what stands in a block stands in the whole
in_block : (start : ℕ) (input : List ℕ) (k : ℕ) → k < 64
    → get_or (take 64 (drop start input)) k 0 ≡ get_or input (start + k) 0
in_block start input k within = get_or-take 64 (drop start input) k 0 within ∙ get_or-drop start input k 0

-- a place of a block holds the byte
pub place_holds : (byte start places : ℕ) (input : List ℕ) (k : ℕ) → k < 64
    → ArePlaces byte (take 64 (drop start input)) places
    → bit_at places k ≡ 1 → get_or input (start + k) 0 ≡ byte
place_holds byte start places input k within are set = sym (in_block start input k within) ∙ ((are k).0 set).1

-- where of the places from `done` on none is left before a place of the block, the byte does not stand from
-- there up to that place
pub free_to : (byte start done upto places left : ℕ) (input : List ℕ) → start + 64 ≤ length input → upto ≤ 64
    → ArePlaces byte (take 64 (drop start input)) places
    → ((k : ℕ) → (bit_at left k ≡ 1) ↔ ((bit_at places k ≡ 1) × (done ≤ start + k)))
    → IsFreeOf byte input done start → ((k : ℕ) → k < upto → bit_at left k ≢ 1)
    → IsFreeOf byte input done (start + upto)
free_to byte start done upto places left input fits most are lefts free none place from until same =
    elim (cases_lt place start) [
      | inl before ↦ free place from before same
      | inr behind ↦
          (let k = place - start in
          let at : start + k ≡ place = omega (arith, behind) in
          let short : k < upto = omega (arith, at, until) in
          let len : length (take 64 (drop start input)) ≡ 64 =
          length-take-le 64 (drop start input) (omega (arith, fits, length-drop start input)) in
          let there : get_or (take 64 (drop start input)) k 0 ≡ byte =
          in_block start input k (omega (arith, short, most)) ∙ ap (λ n. get_or input n 0) at ∙ same in
          none k short ((lefts k).1 (
            (are k).1 (omega (arith, short, most, len), there),
            omega (arith, at, from),
          )))
    ]
