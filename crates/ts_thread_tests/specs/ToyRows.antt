-- What holds of rows of toy worlds, before they are run and at their end.
use Rattle.std.specs.Prelude.{◌≡◌, ℕ, List, Bool, All, length}
use Rattle.ts_journal.specs.State.{State}
use Rattle.ts_group.specs.declared.action.Named.{Named}
use Rattle.ts_group.specs.declared.group.Group.{Group}
use Rattle.ts_thread.specs.Goings.{IsIdle}
use Rattle.ts_thread.specs.Tags.{GroupsFit}
use Rattle.ts_thread.specs.Threads.{HasHadTurns}

-- so many groups that have had no turn, each of which fits the tag at its place, and tags of which this holds
pub record AreToys {W Q R T U : Type 0} (Fits : T → W → Type 0) (Sound : W → State → List Named → Type 0)
    (only_asked is_first : T → Bool) (Tagged : T → Type 0) (count : ℕ)
    (tags : List T) (groups : List (Group W Q R T U)) : Type 0 where
  pub fits : GroupsFit Fits Sound only_asked is_first tags groups
  pub tagged : All Tagged tags
  pub new : All (HasHadTurns 0) groups
  pub count_is : length groups ≡ count

-- no event of the group is pending, and its world counted this
abbrev pub HasEnded : {W Q R T U : Type 0} → (W → Type 0) → Group W Q R T U → Type 0
HasEnded Counted g = IsIdle g × Counted g.world
