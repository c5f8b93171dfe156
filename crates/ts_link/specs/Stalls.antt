-- The stalls of a source: each has its place in the source's bytes, and the number of reads that wait there.
use Rattle.std.specs.Prelude.{◌≡◌, ℕ, ◌+◌, ◌<◌, ◌==◌, List, [], ◌∷◌, Bool, true, if◌then◌else◌, nat_lt}
use Rattle.std.specs.List.{list_any}

-- whether a stall stands at this place
abbrev pub stands_at : ℕ → List (ℕ × ℕ) → Bool
stands_at place stalls = list_any (λ stall. stall.0 == place) stalls

-- how many reads wait at the stalls beyond this place
abbrev pub reads_beyond : ℕ → List (ℕ × ℕ) → ℕ
reads_beyond place [] = 0
reads_beyond place (s ∷ ss) = (if nat_lt place s.0 then s.1 else 0) + reads_beyond place ss

-- A stall stands at this place, and not all of its reads were made: of all reads, so many still wait, which
-- are more than those beyond it.
pub record StallsAt (place waiting : ℕ) (stalls : List (ℕ × ℕ)) : Type 0 where
  pub stands : stands_at place stalls ≡ true
  pub more : reads_beyond place stalls < waiting
