-- Bytes that are put into a list and taken out of it: each transform line changes no more of what it writes
-- for them, wherever they stand; and the transforms of lines.
use Rattle.std.specs.Prelude.{◌≡◌, ℕ, ◌+◌, ◌≤◌, List, [], ◌∷◌, ⊤, map, false}
use Rattle.ts_config.specs.Bodies.{so_far_of, whole_of}
use Rattle.ts_config.specs.declared.setup.TransformLine.{TransformLine}
use Rattle.ts_transform.specs.Flow.{ChainState, fresh_stage}
use Rattle.ts_transform.specs.Stage.{rest_of}
use Rattle.ts_transform.specs.declared.pump.Stage.{Stage}
use Rattle.ts_transform.specs.declared.transform.Transform as transform

-- what becomes of a byte on the way from one list to another
pub data Edit : Type 0 where
  Kept : ℕ → Edit
  PutIn : ℕ → Edit
  TakenOut : ℕ → Edit

-- the list that is edited, and what it becomes
abbrev pub edited_from : List Edit → List ℕ
edited_from [] = []
edited_from (Kept b ∷ es) = b ∷ edited_from es
edited_from (PutIn b ∷ es) = edited_from es
edited_from (TakenOut b ∷ es) = b ∷ edited_from es

abbrev pub edited_to : List Edit → List ℕ
edited_to [] = []
edited_to (Kept b ∷ es) = b ∷ edited_to es
edited_to (PutIn b ∷ es) = b ∷ edited_to es
edited_to (TakenOut b ∷ es) = edited_to es

-- how many bytes are put in, and how many are taken out
abbrev pub count_in : List Edit → ℕ
count_in [] = 0
count_in (Kept b ∷ es) = count_in es
count_in (PutIn b ∷ es) = count_in es + 1
count_in (TakenOut b ∷ es) = count_in es

abbrev pub count_out : List Edit → ℕ
count_out [] = 0
count_out (Kept b ∷ es) = count_out es
count_out (PutIn b ∷ es) = count_out es
count_out (TakenOut b ∷ es) = count_out es + 1

-- the second list is the first, with at most so many bytes put in, and so many taken out
pub record IsEdited (most_in most_out : ℕ) (xs ys : List ℕ) : Type 0 where
  pub edits : List Edit
  pub from : edited_from edits ≡ xs
  pub to : edited_to edits ≡ ys
  pub few_in : count_in edits ≤ most_in
  pub few_out : count_out edits ≤ most_out

-- where so many bytes of its input are put in and taken out, no more are of its output
abbrev pub ChangesNoMore : (List ℕ → List ℕ) → Type 0
ChangesNoMore rest = (n : ℕ) (xs ys : List ℕ) → IsEdited n n xs ys → IsEdited n n (rest xs) (rest ys)

-- so does each stage of a chain
abbrev pub AllChangeNoMore : {P : Type 0} → (P → List ℕ → List ℕ) → List (Stage P) → Type 0
AllChangeNoMore rest [] = ⊤
AllChangeNoMore rest (s ∷ ss) = ChangesNoMore (rest_of rest s.part) × AllChangeNoMore rest ss

-- each transform makes of what it gets what its line makes of a whole body, writes of it so far what its line
-- does, and pauses as its line says
abbrev pub AreOfLines : {P : Type 0} → transform.Ghosts P TransformLine → List TransformLine → List P → Type 0
AreOfLines stage [] [] = ⊤
AreOfLines stage [] (p ∷ ps) = ⊥
AreOfLines stage (l ∷ ls) [] = ⊥
AreOfLines stage (l ∷ ls) (p ∷ ps) = ((z : List ℕ) → stage.rest p z ≡ whole_of l z)
    × (stage.pause p ≡ stage.line_pause l) × ((z : List ℕ) → stage.soon p z ≡ so_far_of l z)
    × AreOfLines stage ls ps

-- a chain of fresh transforms of these lines, which got nothing yet
pub record IsOfParts {P : Type 0} (stage : transform.Ghosts P TransformLine) (lines : List TransformLine)
    (c : ChainState P) : Type 0 where
  pub parts : List P
  pub of_lines : AreOfLines stage lines parts
  pub chain : c ≡ record {
    first = [];
    stages = map (fresh_stage stage.soon stage.pause) parts;
    given = false;
  }
