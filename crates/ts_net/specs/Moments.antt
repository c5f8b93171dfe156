-- Nanoseconds as milliseconds.
use Rattle.std.specs.Prelude.{ℕ, ◌/◌, min}
use Rattle.ts_link.specs.Counts.{greatest}

-- the whole milliseconds of so many nanoseconds: they stay at the greatest `u64`
abbrev pub milliseconds : ℕ → ℕ
milliseconds nanoseconds = min (nanoseconds / 1_000_000) greatest
