-- A list of transform lines, and a chain of theirs: how much they add to a body, and how often a byte of it
-- passes a boundary.
use Rattle.std.specs.Prelude.{◌≡◌, ℕ, ◌+◌, ◌≤◌, List, [], ◌∷◌, length}
use Rattle.ts_config.specs.Bodies.{so_far_of, whole_of}
use Rattle.ts_config.specs.declared.setup.TransformLine.{TransformLine}
use Rattle.ts_config.specs.declared.setup.TransformLine.TheVariants as t
use Rattle.ts_transform.specs.Flow.{ChainState}
use Rattle.ts_transform.specs.declared.transform.Transform as transform
use Rattle.ts_passing.specs.Inserted.{AllChangeNoMore}

-- the text that a transform line adds
abbrev pub line_length : TransformLine → ℕ
line_length (t.Append file text) = length text
line_length (t.Prepend text) = length text
line_length _ = 0

abbrev pub lines_length : List TransformLine → ℕ
lines_length [] = 0
lines_length (l ∷ ls) = line_length l + lines_length ls

-- so many bytes pass the boundary before each line's stage, and the client's
abbrev pub passes : List TransformLine → ℕ → ℕ
passes [] bytes = bytes
passes (l ∷ ls) bytes = bytes + passes ls bytes

-- the transform of a line makes of a whole body what the line does, and writes of a body so far what the line
-- does, until the line finishes early
abbrev pub ActsAsLines : {P : Type 0} → transform.Ghosts P TransformLine → Type 0
ActsAsLines stage = (l : TransformLine) (z : List ℕ)
    → (stage.whole l z ≡ whole_of l z) × (stage.line_soon l z ≡ so_far_of l z)

-- A chain of some of these lines: it has no more stages than there are lines, and each of them changes no more
-- of what it writes than is changed of what it gets.
pub record IsOfSome {P : Type 0} (lines : List TransformLine) (rest : P → List ℕ → List ℕ)
    (c : ChainState P) : Type 0 where
  pub few : length c.stages ≤ length lines
  pub changes : AllChangeNoMore rest c.stages
