-- The sum of bytes, by which a summary and a tap tell of a body.
use Rattle.std.specs.Prelude.{ℕ, ◌+◌, ◌*◌, ◌%◌, ◌^◌, List, [], ◌∷◌}

abbrev pub sum_factor : ℕ
sum_factor = 31

-- the sum with one byte more: so many times the sum before, and the byte, in 64 bits
abbrev pub sum_with : ℕ → ℕ → ℕ
sum_with sum b = (sum * sum_factor + b) % 2 ^ 64

-- the sum with bytes more
abbrev pub sum_of : ℕ → List ℕ → ℕ
sum_of sum [] = sum
sum_of sum (b ∷ bs) = sum_of (sum_with sum b) bs
