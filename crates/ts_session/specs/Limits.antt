-- The limits of a session.
use Rattle.std.specs.Prelude.{◌≡◌, ℕ}
use Rattle.ts_session.specs.declared.course.TheConstants.{MOST_PLACES}

-- so many requests a session may carry
abbrev pub most_places : ℕ
most_places = 1000

pub record AreLimits : Type 0 where
  pub places : MOST_PLACES ≡ most_places
