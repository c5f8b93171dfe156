-- What the turns of one thread leave of groups.
use Rattle.std.specs.Prelude.{◌≡◌, ◌≢◌, ◌⊎◌, ℕ, ◌+◌, ◌<◌, ◌≤◌, max, List, [], ◌∷◌, ◌++◌, Bool, Option, Result, Ok, Err, length, unwrap_or, OnOk, All, sum_by}
use Rattle.std.specs.Result.{IsErrOf}
use Rattle.std.specs.List.{AllZip, Any}
use Rattle.ts_journal.specs.declared.entry.Entry.{Entry}
use Rattle.ts_journal.specs.State.{State}
use Rattle.ts_journal.specs.Log.{Extends}
use Rattle.ts_journal.specs.Later.{IsLater}
use Rattle.ts_group.specs.declared.action.Named.{Named}
use Rattle.ts_group.specs.declared.group.Group.{Group}
use Rattle.ts_group.specs.declared.world.Asked.{Asked}
use Rattle.ts_group.specs.declared.world.Asked.TheVariants as asked
use Rattle.ts_group.specs.declared.slot.TheConstants.{MOST_IN_TURN}
use Rattle.ts_group.specs.Answers.{Holds, LeavesLess, KeepsTags, SetsAtMost}
use Rattle.ts_group.specs.Changes.{StaysInTurn}
use Rattle.ts_group.specs.Due.{IsDueFirst}
use Rattle.ts_thread.specs.declared.did.Unfinished.{Unfinished}
use Rattle.ts_thread.specs.declared.did.Unfinished.TheVariants as unfinished
use Rattle.ts_thread.specs.Alone.{HandlesDue, TakesTurns}
use Rattle.ts_thread.specs.Asks.{TakesQuestions}
use Rattle.ts_thread.specs.Tags.{GroupFits}

-- the same group, made with as many turns, whose state does not go back
pub record IsLaterGroup {W Q R T U : Type 0} (old new : Group W Q R T U) : Type 0 where
  pub made : new.cx.log.base.made ≡ old.cx.log.base.made
  pub later : IsLater old.cx.log.state new.cx.log.state

-- What at most so many turns, of which none is held any more, leave of a group, where a drive gave this
-- answer.
pub record HasTakenTurns {W Q R T U : Type 0} (Fits : T → W → Type 0)
    (Sound : W → State → List Named → Type 0) (only_asked is_first : T → Bool) (Left : W → State → Option ℕ)
    (limit : ℕ)
    (result : Result (Unit {0}) Unfinished) (old new : Group W Q R T U) (turns : ℕ) : Type 0 where
  -- it fits each tag that it fitted
  pub fits : (t : T) → GroupFits Fits Sound only_asked is_first t old
      → GroupFits Fits Sound only_asked is_first t new
  pub tags : KeepsTags Fits old.world new.world
  -- one handles nothing only where memory lacked
  pub takes : TakesTurns (IsErrOf result unfinished.NoMemory) old.cx.log new.cx.log turns
  pub took : new.cx.log.state.turns ≤ old.cx.log.state.turns + turns
  -- a worn group has no turn more
  pub within : new.cx.log.state.turns ≤ max old.cx.log.state.turns limit
  -- no more is left to do; only a question that a worn group doesn't take may be asked again
  pub falls : (IsErrOf result unfinished.Worn → ⊥) → LeavesLess Left old 0 new
  pub nothing : old.cx.log.state.pending ≡ [] → new.cx.log.state.pending ≡ []
  pub later : IsLaterGroup old new

-- What a group becomes in a turn that it has, in which the event that is due first is handled, or nothing at
-- want of memory, with this answer: the turn is still held.
pub record WorksOn {W Q R T U : Type 0} (Fits : T → W → Type 0) (Sound : W → State → List Named → Type 0)
    (Left : W → State → Option ℕ) (result : Result (Unit {0}) Unfinished)
    (old new : Group W Q R T U) : Type 0 where
  pub did : List Entry
  pub by : Extends old.cx.log new.cx.log did
  pub first : (IsErrOf result unfinished.NoMemory × (did ≡ [])) ⊎ HandlesDue old.cx.log.state did
  pub turn : StaysInTurn old.cx.log.state new.cx.log.state
  pub later : IsLater old.cx.log.state new.cx.log.state
  pub tags : KeepsTags Fits old.world new.world
  pub sound : Holds Sound new
  pub few : SetsAtMost Fits old.world MOST_IN_TURN old.cx new.cx
  pub falls : (IsErrOf result unfinished.Worn → ⊥) → LeavesLess Left old 0 new

-- what is left to do to a group, 0 where its world does not tell it
abbrev pub left_in_all : {W Q R T U : Type 0} → (W → State → Option ℕ) → Group W Q R T U → ℕ
left_in_all Left g = unwrap_or (Left g.world g.cx.log.state) 0

-- no event of the group is pending
abbrev pub IsIdle : {W Q R T U : Type 0} → Group W Q R T U → Type 0
IsIdle g = g.cx.log.state.pending ≡ []

-- What a drive answers where this came of a question. Nobody else has the groups, so a question is missed
-- only by a worn group.
abbrev pub came_of : {Q R : Type 0} → Asked Q R → Result (Unit {0}) Unfinished
came_of (asked.Reply r) = Ok tt
came_of (asked.Missed seen q) = Err unfinished.Worn
came_of (asked.NoMemory q) = Err unfinished.NoMemory

-- A group that has had so many turns was to have one more: an event of it is pending, or it is only asked.
abbrev pub IsWorn : {W Q R T U : Type 0} → (T → W → Type 0) → (W → State → List Named → Type 0)
    → (T → Bool) → (T → Bool) → ℕ → Group W Q R T U → Type 0
IsWorn Fits Sound only_asked is_first limit g = (limit ≤ g.cx.log.state.turns)
    × ((g.cx.log.state.pending ≢ []) ⊎ TakesQuestions Fits Sound only_asked is_first g)

-- where the answer says that a group is worn, one of these is
abbrev pub WornAmong : {W Q R T U : Type 0} → (T → W → Type 0) → (W → State → List Named → Type 0)
    → (T → Bool) → (T → Bool) → ℕ → Result (Unit {0}) Unfinished → List (Group W Q R T U) → Type 0
WornAmong Fits Sound only_asked is_first limit result groups =
    IsErrOf result unfinished.Worn → Any (IsWorn Fits Sound only_asked is_first limit) groups

-- what at most so many turns of each leave of groups
abbrev pub AllGoOn : {W Q R T U : Type 0} → (T → W → Type 0) → (W → State → List Named → Type 0) → (T → Bool)
    → (T → Bool) → (W → State → Option ℕ) → ℕ → Result (Unit {0}) Unfinished
    → List (Group W Q R T U) → List (Group W Q R T U) → ℕ → Type 0
AllGoOn Fits Sound only_asked is_first Left limit result old new turns =
    AllZip (λ g h. HasTakenTurns Fits Sound only_asked is_first Left limit result g h turns) old new

-- the group has had fewer turns than the limit after so many, and one more
abbrev pub HasTurns : {W Q R T U : Type 0} → ℕ → ℕ → Group W Q R T U → Type 0
HasTurns limit more g = g.cx.log.state.turns + more + 1 < limit

-- the event of this number is due first of all that is pending, at this moment
abbrev pub ComesNext : {W Q R T U : Type 0} → Group W Q R T U → ℕ → ℕ → Type 0
ComesNext g number moment = IsDueFirst g.cx.log.state moment number

-- one group of a row, with those before and after it
abbrev pub row : {X : Type 0} → List X → X → List X → List X
row before x after = before ++ x ∷ after

-- What a drive of one group leaves of it and of those before and after it: so many turns at most were
-- taken of each, no more than the group had left to do and one, and where it came to its end, the group
-- has that much less to do.
pub record Drives {W Q R T U : Type 0} (Fits : T → W → Type 0) (Sound : W → State → List Named → Type 0)
    (only_asked is_first : T → Bool) (Left : W → State → Option ℕ) (limit : ℕ)
    (before before' : List (Group W Q R T U)) (old new : Group W Q R T U)
    (after after' : List (Group W Q R T U)) (result : Result (Unit {0}) Unfinished) : Type 0 where
  pub turns : ℕ
  pub within : turns ≤ left_in_all Left old + 1
  pub first : AllGoOn Fits Sound only_asked is_first Left limit result before before' turns
  pub own : HasTakenTurns Fits Sound only_asked is_first Left limit result old new turns
  pub last : AllGoOn Fits Sound only_asked is_first Left limit result after after' turns
  pub less : OnOk result (left_in_all Left new + turns ≤ left_in_all Left old)
  pub idle : OnOk result (IsIdle new)
  pub worn : WornAmong Fits Sound only_asked is_first limit result (row before' new after')

-- A drive of the group at a place of a row, as it leaves the row.
pub record DrivesAt {W Q R T U : Type 0} (Fits : T → W → Type 0) (Sound : W → State → List Named → Type 0)
    (only_asked is_first : T → Bool) (Left : W → State → Option ℕ) (limit place : ℕ)
    (old new : List (Group W Q R T U)) (result : Result (Unit {0}) Unfinished) : Type 0 where
  pub before : List (Group W Q R T U)
  pub before' : List (Group W Q R T U)
  pub group : Group W Q R T U
  pub group' : Group W Q R T U
  pub after : List (Group W Q R T U)
  pub after' : List (Group W Q R T U)
  pub at_place : length before ≡ place
  pub old_is : old ≡ row before group after
  pub new_is : new ≡ row before' group' after'
  pub drives : Drives Fits Sound only_asked is_first Left limit before before' group group' after after'
      result

-- What a drive of all groups leaves of them: so many turns at most were taken of each, no more than was
-- left to do in all and one. Where it came to its end, that much less is left to do in all, and no event
-- is pending.
pub record Finishes {W Q R T U : Type 0} (Fits : T → W → Type 0) (Sound : W → State → List Named → Type 0)
    (only_asked is_first : T → Bool) (Left : W → State → Option ℕ) (limit : ℕ)
    (old new : List (Group W Q R T U)) (result : Result (Unit {0}) Unfinished) : Type 0 where
  pub turns : ℕ
  pub within : turns ≤ sum_by (left_in_all Left) old + 1
  pub goes : AllGoOn Fits Sound only_asked is_first Left limit result old new turns
  pub less : OnOk result (sum_by (left_in_all Left) new + turns ≤ sum_by (left_in_all Left) old)
  pub idle : OnOk result (All IsIdle new)
  pub worn : WornAmong Fits Sound only_asked is_first limit result new
