-- What the order of a wheel comes to, for tokens in the order in which they were added.
use Rattle.std.specs.Prelude.{◌≡◌, ℕ, ◌==◌, nat_lt, nat_le, List, [], ◌∷◌, ◌++◌, Option, Some, None, if◌then◌else◌}
use Rattle.ts_wheel.specs.Due.{added, first_due, after_due}

module _ {T : Type 0} where
  -- of two tokens the one with the lesser due moment, and of one moment the one that was added first
  abbrev pub earlier : ℕ × T → Option (ℕ × T) → ℕ × T
  earlier e None = e
  earlier e (Some f) = if nat_lt f.0 e.0 then f else e

  -- of the tokens due at or before the moment the one with the least pair of due moment and order of adding
  abbrev pub due_of : ℕ → List (ℕ × T) → Option (ℕ × T)
  due_of now [] = None
  due_of now (e ∷ es) = if nat_le e.0 now then Some (earlier e (due_of now es)) else due_of now es

  -- the list without the first token of that due moment
  abbrev pub without_first : ℕ → List (ℕ × T) → List (ℕ × T)
  without_first due [] = []
  without_first due (e ∷ es) = if e.0 == due then es else e ∷ without_first due es

  -- a token that was added before the others goes before those that are due no sooner
  abbrev pub led : ℕ × T → List (ℕ × T) → List (ℕ × T)
  led e [] = e ∷ []
  led e (f ∷ fs) = if nat_lt f.0 e.0 then f ∷ led e fs else e ∷ f ∷ fs

  -- the same tokens in the order in which they come due
  abbrev pub in_order : List (ℕ × T) → List (ℕ × T)
  in_order [] = []
  in_order (e ∷ es) = led e (in_order es)

  -- a wheel of these tokens gives what `due_of` gives, and keeps all the rest
  abbrev pub GivesDue : ℕ → List (ℕ × T) → Option (ℕ × T) → Type 0
  GivesDue now es None = (first_due now (in_order es) ≡ None) × (after_due now (in_order es) ≡ in_order es)
  GivesDue now es (Some e) =
      (first_due now (in_order es) ≡ Some e.1) ×
      (after_due now (in_order es) ≡ in_order (without_first e.0 es))

-- whatever was added in whatever order: one token more, added last, stands where a wheel puts it
abbrev pub AddsInOrder : Type 0 → Type 0
AddsInOrder T =
    (tokens : List (ℕ × T)) (due : ℕ) (token : T)
    → in_order (tokens ++ (due, token) ∷ []) ≡ added due token (in_order tokens)

-- whatever was added in whatever order: a wheel gives the due token with the least pair of due moment and
-- order of
-- adding, and keeps all the rest in order
abbrev pub TakesTheDue : Type 0 → Type 0
TakesTheDue T = (tokens : List (ℕ × T)) (now : ℕ) → GivesDue now tokens (due_of now tokens)
