-- What stands at the front of some bytes.
use Rattle.std.specs.Prelude.{ℕ, ◌<◌, ◌≤◌, ◌++◌, List, length, drop}
use Rattle.ts_wire.specs.Limits.{head_limit}
use Rattle.ts_wire.specs.declared.reading.Read as wire
use Rattle.ts_wire.specs.declared.reading.Read.TheVariants as R

-- a head that the bytes have and where it ends, or what they lack, now or for ever
abbrev pub HasFront : {H : Type 0} → (List ℕ → H → List ℕ → Type 0) → (List ℕ → Type 0)
    → List ℕ → wire.Read H → Type 0
HasFront has lacks bytes (R.Head head used) =
    has bytes head (drop used bytes) × (0 < used) × (used ≤ length bytes)
HasFront has lacks bytes R.More = lacks bytes × (length bytes < head_limit)
HasFront has lacks bytes R.Bad = (more : List ℕ) → lacks (bytes ++ more)
HasFront has lacks bytes R.TooLong = (more : List ℕ) → lacks (bytes ++ more)
