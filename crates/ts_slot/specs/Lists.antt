-- Sums over a list, facts on each of its entries, and lists of entries that each begin with the number of a
-- group.
use Rattle.std.specs.Prelude.{◌≡◌, ℕ, ◌+◌, ◌⊎◌, ⊤, cond, eqb, List, [], ◌∷◌, Option, Some}
use mathlib.Core.Option.{some}
use lib.ListN.{get_elem?}

abbrev pub total : {A : Type 0} → (A → ℕ) → List A → ℕ
total f [] = 0
total f (x ∷ xs) = f x + total f xs

abbrev pub Each : {A : Type 0} → (A → Type 0) → List A → Type 0
Each P [] = ⊤
Each P (x ∷ xs) = P x × Each P xs

-- the entry stands in the list
abbrev pub IsIn : {A : Type 0} → A → List A → Type 0
IsIn e [] = ⊥
IsIn e (x ∷ xs) = (x ≡ e) ⊎ IsIn e xs

abbrev pub rest : {A : Type 0} → List A → List A
rest [] = []
rest (x ∷ xs) = xs

-- 1 where the numbers are one, and else 0
abbrev pub same : ℕ → ℕ → ℕ
same a b = cond (eqb a b) 1 0

-- how many entries are of the group
abbrev pub entries : ℕ → List (ℕ × ℕ) → ℕ
entries k es = total (λ e. same e.0 k) es

-- the same where each entry has a trace beside it
abbrev pub traced : {T : Type 0} → ℕ → List (ℕ × ℕ × T) → ℕ
traced k es = total (λ e. same e.0 k) es

-- the list but for the first entry of the group
abbrev pub without_group : {T : Type 0} → ℕ → List (ℕ × ℕ × T) → List (ℕ × ℕ × T)
without_group k [] = []
without_group k (e ∷ es) = cond (eqb e.0 k) es (e ∷ without_group k es)

-- a value stands at the place k
abbrev pub HasValue : {X : Type 0} → List (Option X) → ℕ → Type 0
HasValue {X} xs k = (x : X) × (get_elem? xs k ≡ some (Some x))
