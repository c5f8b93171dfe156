-- A thread's desk, and what calls leave of it.
use Rattle.std.specs.Prelude.{◌≡◌, ℕ, ◌+◌, ◌≤◌, ◌⊎◌, [], length}
use Rattle.ts_journal.specs.declared.slotted.Slotted.{Ghosts}
use Rattle.ts_queue.specs.declared.queue.EventQueue.{EventQueue}
use Rattle.ts_journal.specs.declared.entry.TheConstants.{GREATEST}
use Rattle.ts_queue.specs.Passes.{IsPassOf, pass_view, empties_of}
use Rattle.ts_queue.specs.Views.{kept_part, split_part, with_joined}
use Rattle.ts_slot.specs.declared.slots.Slots.{Slots}
use Rattle.ts_slot.specs.Views.{left_half, right_half, joined}
use Rattle.ts_slot.specs.Words.{tags_of, view, IsSeatOf}
use Rattle.ts_thread.specs.declared.desk.Desk.{Desk}
use Rattle.ts_thread.specs.News.{KeepsPlaces}
use Rattle.ts_thread.specs.Seats.{KeepsSeat, LeavesWon, Leaves}
use Rattle.ts_thread.specs.Tokens.{AllName}

module _ {X G T : Type 0} {d : Ghosts X G T} where
  -- The desk has a seat of these slots and a pass of this queue, and each token in its wheel names a group of
  -- the slots.
  pub record IsDeskOf (slots : Slots X G T) (queue : EventQueue) (desk : Desk X G T d) : Type 0 where
    pub seat : IsSeatOf slots desk.seat
    pub pass : IsPassOf queue desk.pass
    pub wheel : AllName (length (tags_of slots)) desk.wheel

  -- a desk whose seat got at most so many turns more and holds what it held
  pub record KeepsDesk (old new : Desk X G T d) (most : ℕ) : Type 0 where
    pub seat : KeepsSeat (view old.seat) (view new.seat) most
    pub share : (pass_view new.pass).share ≡ (pass_view old.pass).share

  -- the same, and no token lost its place
  pub record KeepsTokens (old new : Desk X G T d) (most : ℕ) : Type 0 where
    pub desk : KeepsDesk old new most
    pub places : KeepsPlaces old new

  -- the same, but for the group that the seat won last, which it left
  pub record ClosesDesk (old new : Desk X G T d) (most : ℕ) : Type 0 where
    pub seat : LeavesWon (view old.seat) (view new.seat) most
    pub share : (pass_view new.pass).share ≡ (pass_view old.pass).share
    pub places : KeepsPlaces old new

  -- a desk whose seat left the group that it won last
  pub record LeavesDesk (old new : Desk X G T d) : Type 0 where
    pub seat : Leaves (view old.seat) (view new.seat)
    pub share : (pass_view new.pass).share ≡ (pass_view old.pass).share
    pub places : KeepsPlaces old new

  -- Another desk was split off: it has one part of the shares, a number that was free, and an empty wheel.
  pub record SplitsDesk (old new other : Desk X G T d) : Type 0 where
    pub seat : view new.seat ≡ left_half (view old.seat)
    pub other_seat : view other.seat ≡ right_half (view old.seat)
    pub pass : pass_view new.pass ≡ kept_part (pass_view old.pass)
    pub other_pass : pass_view other.pass ≡ split_part (pass_view old.pass)
    pub wheel : new.wheel ≡ old.wheel
    pub other_wheel : other.wheel ≡ []

  -- another desk was joined: its shares, its turns, what it put and took and what it knows went over
  pub record JoinsDesk (old other new : Desk X G T d) : Type 0 where
    pub seat : view new.seat ≡ joined (view old.seat) (view other.seat)
    pub pass : pass_view new.pass ≡ with_joined (pass_view old.pass) (pass_view other.pass)
    pub wheel : new.wheel ≡ old.wheel

  -- the pass has the share that it had
  abbrev pub SharesSame : Desk X G T d → Desk X G T d → Type 0
  SharesSame old new = (pass_view new.pass).share ≡ (pass_view old.pass).share

  -- how many turns and misses the seat counts, and how often its pass found the queue empty
  abbrev pub counted : Desk X G T d → ℕ
  counted desk = length (view desk.seat).turns + length (view desk.seat).misses + empties_of desk.pass

  -- The desk counts so many more; or the last of these counts is at its end.
  abbrev pub CountsMore : ℕ → Desk X G T d → Desk X G T d → Type 0
  CountsMore more old new = (counted old + more ≤ counted new) ⊎ (GREATEST ≤ empties_of new.pass)

  -- whatever queue the desk is of, it stays a desk of it and of these slots
  abbrev pub StaysDeskOf : Slots X G T → Desk X G T d → Desk X G T d → Type 0
  StaysDeskOf slots old new = (queue : EventQueue) → IsDeskOf slots queue old → IsDeskOf slots queue new
