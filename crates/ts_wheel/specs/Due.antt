-- Tokens with their due moments. A wheel is the list of them in the order in which they come due: by due
-- moment,
-- and those of one moment in the order of adding.
use Rattle.std.specs.Prelude.{ℕ, nat_lt, nat_le, List, [], ◌∷◌, Option, Some, None, if◌then◌else◌}

module _ {T : Type 0} where
  -- a token that is added goes behind those that are due no later
  abbrev pub added : ℕ → T → List (ℕ × T) → List (ℕ × T)
  added due t [] = (due, t) ∷ []
  added due t (e ∷ es) = if nat_lt due e.0 then (due, t) ∷ e ∷ es else e ∷ added due t es

  -- the first token, if it is due at or before the moment
  abbrev pub first_due : ℕ → List (ℕ × T) → Option T
  first_due now [] = None
  first_due now (e ∷ es) = if nat_le e.0 now then Some e.1 else None

  -- what is left when that token was taken
  abbrev pub after_due : ℕ → List (ℕ × T) → List (ℕ × T)
  after_due now [] = []
  after_due now (e ∷ es) = if nat_le e.0 now then es else e ∷ es

  -- the due moment of the first token
  abbrev pub next_moment : List (ℕ × T) → Option ℕ
  next_moment [] = None
  next_moment (e ∷ es) = Some e.0
