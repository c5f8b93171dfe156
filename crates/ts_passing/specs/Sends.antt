-- What is sent of a body while its chain works: what was sent, followed by what the chain still gives, is the
-- lines' work on what was read, followed by what still comes (Developer's Guide, "Transformations").
use Rattle.std.specs.Prelude.{◌≡◌, ℕ, ◌++◌, List, [], true, false, Option}
use Rattle.std.specs.Bool.{OnTrue}
use Rattle.ts_config.specs.declared.setup.TransformLine.{TransformLine}
use Rattle.ts_config.specs.Bodies.{compose_lines, is_early, so_far, soon_lines}
use Rattle.ts_transform.specs.Flow.{AreSettled, ChainState, flow, soon_flow}
use Rattle.ts_transform.specs.Law.{behind}

-- What was sent, followed by what the chain still gives, is the lines' work on what was read: followed by
-- whatever still comes before the chain's end was given, and by nothing from then on. Before that it is also
-- what the lines have written so far, unless one of them has finished early.
pub record Sends {P : Type 0} (rest : P → List ℕ → List ℕ) (soon : P → List ℕ → Option (List ℕ))
    (lines : List TransformLine) (read body : List ℕ) (c : ChainState P) : Type 0 where
  pub flows : (z : List ℕ) → OnTrue c.given (z ≡ []) → body ++ flow rest c z ≡ compose_lines lines (read ++ z)
  pub so : c.given ≡ false → (z : List ℕ) → so_far lines (read ++ z) ≡ behind body (soon_flow soon c z)
  pub settled : AreSettled soon c.stages

-- a line finished early: whatever still comes, it stays so, and what was sent is the lines' work
pub record FinishesEarly (lines : List TransformLine) (read body : List ℕ) : Type 0 where
  pub early : (z : List ℕ) → is_early lines (read ++ z) ≡ true
  pub whole : (z : List ℕ) → body ≡ compose_lines lines (read ++ z)

-- no line did: what was sent is what the lines had written so far
pub record StaysShort (lines : List TransformLine) (read body : List ℕ) : Type 0 where
  pub goes : is_early lines read ≡ false
  pub sent : body ≡ soon_lines lines read
