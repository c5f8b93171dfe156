-- A wheel in three parts: tokens from before a lap, in the lap, and from after it.
use Rattle.std.specs.Prelude.{ℕ, ◌+◌, ◌<◌, ◌≤◌, List, ◌++◌, All}
use Rattle.ts_wheel.specs.declared.TheConstants.{ROWS}
use Rattle.ts_wheel.specs.Rows.{Lap}

module _ {T : Type 0} where
  -- the tokens are due within a lap that starts at this moment
  abbrev pub AreWithin : ℕ → List (ℕ × T) → Type 0
  AreWithin start tokens = All (λ e. (start ≤ e.0) × (e.0 < start + ROWS)) tokens

  pub record IsParted (past : List (ℕ × T)) (lap : Lap T) (later : List (ℕ × T)) : Type 0 where
    pub before : All (λ e. e.0 < lap.start) past
    pub within : AreWithin lap.start lap.tokens
    pub after : All (λ e. lap.start + ROWS ≤ e.0) later

  -- all tokens, in the order in which they come due
  abbrev pub all_tokens : List (ℕ × T) → Lap T → List (ℕ × T) → List (ℕ × T)
  all_tokens past lap later = past ++ (lap.tokens ++ later)
