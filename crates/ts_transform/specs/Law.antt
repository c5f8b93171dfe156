-- The law of a transform: a call that takes bytes loses and changes nothing of what is still to come,
-- whatever follows them.
use Rattle.std.specs.Prelude.{◌≡◌, ℕ, ◌++◌, List, [], Option, Some, None}
use Rattle.ts_iobuf.specs.Buffer.{Buffer, GrowsBy, appended}

-- a transform took the bytes c, and put more into the buffer
pub record Feeds (rest rest' : List ℕ → List ℕ) (c : List ℕ) (old new : Buffer) : Type 0 where
  pub grows : GrowsBy old new (appended old new)
  pub law : (z : List ℕ) → rest (c ++ z) ≡ appended old new ++ rest' z

-- the same of the bytes that wait after a stage
pub record Adds (rest rest' : List ℕ → List ℕ) (c old new : List ℕ) : Type 0 where
  pub more : List ℕ
  pub is : new ≡ old ++ more
  pub law : (z : List ℕ) → rest (c ++ z) ≡ more ++ rest' z

-- what was written so far, behind more that was written before it; none stays none
abbrev pub behind : List ℕ → Option (List ℕ) → Option (List ℕ)
behind more None = None
behind more (Some w) = Some (more ++ w)

-- a transform took the bytes c, and what it has written so far goes on behind what it then wrote
abbrev pub Hears : (soon soon' : List ℕ → Option (List ℕ)) → (c more : List ℕ) → Type 0
Hears soon soon' c more = (z : List ℕ) → soon (c ++ z) ≡ behind more (soon' z)

-- the same behind the bytes that wait after a stage
abbrev pub HearsAfter : (soon soon' : List ℕ → Option (List ℕ)) → (c old new : List ℕ) → Type 0
HearsAfter soon soon' c old new = (z : List ℕ) → behind new (soon' z) ≡ behind old (soon (c ++ z))

-- a transform is done: whatever still comes, it writes nothing more
abbrev pub IsDone : (rest : List ℕ → List ℕ) → (soon : List ℕ → Option (List ℕ)) → Type 0
IsDone rest soon = (z : List ℕ) → (rest z ≡ []) × (soon z ≡ None)
