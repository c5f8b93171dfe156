-- Moments, in milliseconds.
use Rattle.std.specs.Prelude.{ℕ, ◌+◌, min}
use Rattle.ts_link.specs.Counts.{greatest}

-- the moment so many milliseconds later: it stays at the greatest `u64`
abbrev pub moment_after : ℕ → ℕ → ℕ
moment_after moment pause = min (moment + pause) greatest
