-- The tags that groups fit, and which of them ask which.
use Rattle.std.specs.Prelude.{◌≡◌, ◌≢◌, ℕ, List, ◌∷◌, ◌++◌, Bool, Some, true}
use Rattle.std.specs.Bool.{OnTrue}
use Rattle.std.specs.List.{AllZip, slice_get}
use Rattle.ts_journal.specs.State.{State}
use Rattle.ts_group.specs.declared.action.Named.{Named}
use Rattle.ts_group.specs.declared.group.Group.{Group}
use Rattle.ts_group.specs.Answers.{Holds}
use Rattle.ts_group.specs.Slot.{IsAtRest}

-- A group fits a tag: its world does, what is to hold of it holds, it is at rest, and it was made with no
-- turns where the tag asks for that.
abbrev pub GroupFits : {W Q R T U : Type 0} → (T → W → Type 0) → (W → State → List Named → Type 0)
    → (T → Bool) → (T → Bool) → T → Group W Q R T U → Type 0
GroupFits Fits Sound only_asked is_first t g =
    Fits t g.world × Holds Sound g × IsAtRest (only_asked t) g.cx.log.state
    × OnTrue (is_first t) (g.cx.log.base.made ≡ 0)

-- groups fit tags, each the tag at its place
abbrev pub GroupsFit : {W Q R T U : Type 0} → (T → W → Type 0) → (W → State → List Named → Type 0)
    → (T → Bool) → (T → Bool) → List T → List (Group W Q R T U) → Type 0
GroupsFit Fits Sound only_asked is_first tags groups =
    AllZip (λ t g. GroupFits Fits Sound only_asked is_first t g) tags groups

-- Groups before and after another one fit tags, and its world fits the tag between theirs.
pub record FitAround {W Q R T U : Type 0} (Fits : T → W → Type 0) (Sound : W → State → List Named → Type 0)
    (only_asked is_first : T → Bool) (tags : List T)
    (before : List (Group W Q R T U)) (world : W) (after : List (Group W Q R T U)) : Type 0 where
  pub first : List T
  pub tag : T
  pub last : List T
  pub are : tags ≡ first ++ tag ∷ last
  pub fit_before : GroupsFit Fits Sound only_asked is_first first before
  pub fits : Fits tag world
  pub fit_after : GroupsFit Fits Sound only_asked is_first last after

-- Of groups with these tags, each that a world may ask is another one of them and is only asked; and what
-- it gives is right for the world that asks.
pub record CanAsk {W Q R T : Type 0} (Fits : T → W → Type 0) (only_asked : T → Bool) (MayAsk : W → ℕ → Type 0)
    (Right : W → ℕ → Q → R → Type 0) (Answers : W → Q → R → Type 0) (tags : List T) : Type 0 where
  pub others : (j k : ℕ) (t : T) (w : W) → slice_get tags j ≡ Some t → Fits t w → MayAsk w k
      → (j ≢ k) × (u : T) × (slice_get tags k ≡ Some u) × (only_asked u ≡ true)
  pub replies : (j k : ℕ) (t u : T) (w v : W) (q : Q) (r : R) → slice_get tags j ≡ Some t → Fits t w
      → slice_get tags k ≡ Some u → Fits u v → Answers v q r → Right w k q r
