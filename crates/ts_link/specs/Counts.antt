-- Counts of answers. An object of the outside counts its faults in a `u64`, which never falls and stays at
-- its greatest value; so a fault that is reported with no count that rose was made up.
use Rattle.std.specs.Prelude.{◌≡◌, ℕ, ◌+◌, ◌-◌, ◌^◌, ◌≤◌, Bool, true, false, min, max, if◌then◌else◌}

-- the greatest u64
abbrev pub greatest : ℕ
greatest = 2 ^ 64 - 1

-- a count after one more: it stays at the greatest u64
abbrev pub one_more : ℕ → ℕ
one_more n = min (n + 1) greatest

-- the same, where there was one
abbrev pub one_more_if : Bool → ℕ → ℕ
one_more_if b n = if b then one_more n else n

-- a count did not fall from old to new, and rose or stands at the greatest u64
abbrev pub Rose : ℕ → ℕ → Type 0
Rose old new = max old (one_more old) ≤ new

-- a count of answers of one kind, over a call whose answer is of that kind or not
abbrev pub Counted : Bool → ℕ → ℕ → Type 0
Counted true old new = Rose old new
Counted false old new = new ≡ old
