-- How a seat enters a group, which it may miss before.
use Rattle.std.specs.Prelude.{◌≡◌, ℕ, ◌-◌, ◌<◌, List}
use Rattle.ts_journal.specs.declared.slotted.Slotted.{Ghosts}
use Rattle.ts_journal.specs.Machine.{HasLived}
use Rattle.ts_group.specs.declared.group.Group.{Group}
use Rattle.ts_group.specs.Answers.{KeepsTags}
use Rattle.ts_slot.specs.declared.seat.Turn.{Turn}
use Rattle.ts_slot.specs.declared.view.SeatView.{SeatView}
use Rattle.ts_slot.specs.Lists.{IsIn}
use Rattle.ts_slot.specs.Views.{won}
use Rattle.ts_slot.specs.Words.{FitsTag, IsTop, Misses}
use Rattle.ts_thread.specs.Seats.{KeepsSeat, Leaves}

-- The group k was won, maybe after it was missed, and its value was found as the tag wants it, with an
-- earlier stamp.
pub record IsEntered {X G T : Type 0} {d : Ghosts X G T} (tags : List G) (k : ℕ) (old new : SeatView G T)
    (turn : Turn X G T d) : Type 0 where
  pub group : turn.group ≡ k
  pub found : turn.found.value ≡ turn.boxed.value
  pub before : SeatView G T
  pub misses : KeepsSeat old before 0
  pub wins : new ≡ won k turn.number (d.trace turn.boxed.value) before
  pub fits : FitsTag d.fits tags k turn.boxed.value
  pub later : d.stamp turn.boxed.value < turn.number

-- The group of a turn was won last, its value is as it was found, with an earlier stamp, and the seat knows
-- it.
pub record IsWon {X G T : Type 0} {d : Ghosts X G T} (v : SeatView G T) (turn : Turn X G T d) : Type 0 where
  pub top : IsTop v turn.group turn.number (d.trace turn.found.value)
  pub found : turn.found.value ≡ turn.boxed.value
  pub later : d.stamp turn.boxed.value < turn.number
  pub knows : IsIn (turn.group, turn.number - 1, d.trace turn.found.value) v.known

-- The seat won the group of the turn last, and what it found there is as it was, with an earlier stamp, and
-- keeps what the group's tag promises.
pub record Finds {X G T : Type 0} {d : Ghosts X G T} (tags : List G) (v : SeatView G T)
    (turn : Turn X G T d) : Type 0 where
  pub top : IsTop v turn.group turn.number (d.trace turn.found.value)
  pub found : turn.found.value ≡ turn.boxed.value
  pub later : d.stamp turn.boxed.value < turn.number
  pub fits : FitsTag d.fits tags turn.group turn.boxed.value

-- The seat won the group of the turn last, and what it found there has lived since its journal was made, with
-- an earlier stamp.
pub record FindsLived {W Q R T U : Type 0} {d : Ghosts (Group W Q R T U) T (Group W Q R T U)}
    (v : SeatView T (Group W Q R T U)) (turn : Turn (Group W Q R T U) T (Group W Q R T U) d) : Type 0 where
  pub top : IsTop v turn.group turn.number turn.found.value
  pub lived : HasLived turn.found.value.cx.log.base.made turn.found.value.cx.log.state
  pub later : turn.found.value.cx.log.state.turns < turn.number

-- Once it left the group that it won last, the seat has all that it had, and got one turn more.
abbrev pub KeepsOnceLeft : {G T : Type 0} → SeatView G T → SeatView G T → Type 0
KeepsOnceLeft {G} {T} old new = (left : SeatView G T) → Leaves new left → KeepsSeat old left 1

-- Another seat holds the group k: it was missed, which the seat counts, and has all else that it had.
pub record FindsHeld {G T : Type 0} (k : ℕ) (old new : SeatView G T) : Type 0 where
  pub seen : ℕ
  pub misses : Misses k seen old new
  pub keeps : KeepsSeat old new 0

-- it is the same turn of the same group, which found the same there
pub record IsSameTurn {X G T : Type 0} {d : Ghosts X G T} (old new : Turn X G T d) : Type 0 where
  pub group : new.group ≡ old.group
  pub number : new.number ≡ old.number
  pub found : new.found ≡ old.found

-- Where the group that is found was made with as many turns as one that is known to have stood there, its
-- world fits each tag that that one's fitted.
pub record FindsAgain {W Q R T U : Type 0} (Fits : T → W → Type 0) (k : ℕ)
    (known : List (ℕ × ℕ × Group W Q R T U)) (now : Group W Q R T U) : Type 0 where
  pub same : (n : ℕ) (left : Group W Q R T U) → IsIn (k, n, left) known
      → now.cx.log.base.made ≡ left.cx.log.base.made → KeepsTags Fits left.world now.world
