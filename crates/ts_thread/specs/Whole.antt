-- Groups that are run by threads and then driven to their end.
use Rattle.std.specs.Prelude.{ℕ, ◌+◌, ◌*◌, ◌<◌, ◌≤◌, max, List, Bool, Option, length, All}
use Rattle.std.specs.List.{AllZip}
use Rattle.ts_journal.specs.State.{State}
use Rattle.ts_group.specs.declared.action.Named.{Named}
use Rattle.ts_group.specs.declared.group.Group.{Group}
use Rattle.ts_group.specs.Standing.{FollowsGroup}
use Rattle.ts_slot.specs.Limits.{most_groups}
use Rattle.ts_thread.specs.declared.TheConstants.{MOST_ALONE}
use Rattle.ts_group.specs.Answers.{Finite}
use Rattle.ts_thread.specs.Goings.{IsIdle, left_in_all}
use Rattle.ts_thread.specs.Started.{IsFirst, WereStarted}
use Rattle.ts_thread.specs.Tags.{GroupFits, GroupsFit, CanAsk}
use Rattle.ts_thread.specs.Threads.{IsPlan, HasHadTurns, turns_of}

-- These groups can be run by threads: there is one at least, and no more than slots hold; each fits its tag
-- and has had no turn; the plan can be carried out; and those that worlds ask are there and only asked.
pub record CanBeRun {W Q R T U : Type 0} (Fits : T → W → Type 0) (Sound : W → State → List Named → Type 0)
    (only_asked is_first : T → Bool) (MayAsk : W → ℕ → Type 0) (Right : W → ℕ → Q → R → Type 0)
    (Answers : W → Q → R → Type 0) (tags : List T) (groups : List (Group W Q R T U))
    (starts threads budget : ℕ) : Type 0 where
  pub some : 0 < length groups
  pub few : length groups ≤ most_groups
  pub fits : GroupsFit Fits Sound only_asked is_first tags groups
  pub new : All (HasHadTurns 0) groups
  pub plan : IsPlan only_asked tags starts threads budget
  pub asks : CanAsk Fits only_asked MayAsk Right Answers tags

-- Groups that threads ran: each follows the group that was given at its place and fits its tag, has had no
-- more turns than the plan gives, and the first so many were started.
pub record HaveRun {W Q R T U : Type 0} (Fits : T → W → Type 0) (Sound : W → State → List Named → Type 0)
    (only_asked is_first : T → Bool) (Begun : W → W → Type 0) (tags : List T) (given : List (Group W Q R T U))
    (starts threads budget : ℕ) (groups : List (Group W Q R T U)) : Type 0 where
  pub follow : AllZip (FollowsGroup Fits) groups given
  pub fits : GroupsFit Fits Sound only_asked is_first tags groups
  pub turns : All (HasHadTurns (turns_of starts threads budget)) groups
  pub started : WereStarted Fits (IsFirst is_first tags) Begun Sound starts given groups

-- each group that fits one of these tags tells what is left to do
abbrev pub EachTells : {W T : Type 0} → Type 0 → Type 0 → Type 0 → (T → W → Type 0)
    → (W → State → List Named → Type 0) → (T → Bool) → (T → Bool) → (W → State → Option ℕ) → List T → Type 0
EachTells {W} {T} Q R U Fits Sound only_asked is_first Left tags =
    All (λ t. (g : Group W Q R T U) → GroupFits Fits Sound only_asked is_first t g → Finite Left g) tags

-- Groups with these tags end soon: of each that fits its tag and has had at most so many turns, no more
-- than this is left to do, and there are turns enough for that of all of them below a limit.
pub record EndSoon {W T : Type 0} (Q R U : Type 0) (Fits : T → W → Type 0)
    (Sound : W → State → List Named → Type 0) (only_asked is_first : T → Bool) (Left : W → State → Option ℕ)
    (limit turns : ℕ) (tags : List T) : Type 0 where
  pub most : ℕ
  pub each : All (λ t. (g : Group W Q R T U) → GroupFits Fits Sound only_asked is_first t g
      → HasHadTurns turns g → left_in_all Left g ≤ most) tags
  pub enough : turns + length tags * most + 1 < limit

-- Groups that have ended: each follows the group that was given at its place and fits its tag, no event is
-- pending, each has had no more turns than the plan gives or than one thread gives, and the first so many
-- were started.
pub record HaveEnded {W Q R T U : Type 0} (Fits : T → W → Type 0) (Sound : W → State → List Named → Type 0)
    (only_asked is_first : T → Bool) (Begun : W → W → Type 0) (tags : List T) (given : List (Group W Q R T U))
    (starts threads budget : ℕ) (groups : List (Group W Q R T U)) : Type 0 where
  pub follow : AllZip (FollowsGroup Fits) groups given
  pub fits : GroupsFit Fits Sound only_asked is_first tags groups
  pub idle : All IsIdle groups
  pub turns : All (HasHadTurns (max (turns_of starts threads budget) MOST_ALONE)) groups
  pub started : WereStarted Fits (IsFirst is_first tags) Begun Sound starts given groups
