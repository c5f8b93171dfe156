-- A seat and a pass of a thread, and how they are split among threads.
use Rattle.std.specs.Prelude.{◌≡◌, ℕ, ◌+◌, ◌*◌, ◌<◌, ◌≤◌, List, [], Bool, length}
use Rattle.ts_journal.specs.declared.slotted.Slotted.{Ghosts}
use Rattle.ts_queue.specs.declared.TheConstants.{WHOLE_SHARE}
use Rattle.ts_queue.specs.declared.queue.EventQueue.{EventQueue}
use Rattle.ts_queue.specs.declared.queue.QueuePass.{QueuePass}
use Rattle.ts_group.specs.declared.group.Group.{Group}
use Rattle.ts_queue.specs.Passes.{IsPassOf, HoldsAllPut, pass_view}
use Rattle.ts_queue.specs.Views.{first_view}
use Rattle.ts_slot.specs.declared.seat.Seat.{Seat}
use Rattle.ts_slot.specs.declared.slots.Slots.{Slots}
use Rattle.ts_slot.specs.Limits.{whole_share, last_turn}
use Rattle.ts_slot.specs.Words.{view, IsSeatOf}
use Rattle.ts_thread.specs.declared.TheConstants.{MOST_ENTERED, MOST_THREADS}
use Rattle.ts_thread.specs.Seats.{KeepsSeat}
use Rattle.ts_thread.specs.Started.{CanStart}

-- how many turns are taken at most where so many groups are started and so many threads run with a budget
-- each
abbrev pub turns_of : ℕ → ℕ → ℕ → ℕ
turns_of starts threads budget = starts + threads * (MOST_ENTERED * budget)

-- the group has had at most so many turns
abbrev pub HasHadTurns : {W Q R T U : Type 0} → ℕ → Group W Q R T U → Type 0
HasHadTurns most g = g.cx.log.state.turns ≤ most

-- So many groups can be started, and so many threads run, with a budget that leaves each group turns enough.
pub record IsPlan {T : Type 0} (only_asked : T → Bool) (tags : List T)
    (starts threads budget : ℕ) : Type 0 where
  pub tagged : CanStart only_asked tags starts
  pub some : 0 < threads
  pub most : threads ≤ MOST_THREADS
  pub turns : turns_of starts threads budget + 1 < last_turn

-- the pass has the share that the other had
abbrev pub KeepsShare : QueuePass → QueuePass → Type 0
KeepsShare old new = (pass_view new).share ≡ (pass_view old).share

module _ {X G T : Type 0} {d : Ghosts X G T} where
  -- a seat of these slots, and a pass of this queue
  pub record IsPair (slots : Slots X G T) (queue : EventQueue) (seat : Seat X G T d)
      (pass : QueuePass) : Type 0 where
    pub of_slots : IsSeatOf slots seat
    pub of_queue : IsPassOf queue pass

  -- The seat and the pass can be split among so many threads: there are shares and free numbers enough.
  pub record CanSplit (threads : ℕ) (seat : Seat X G T d) (pass : QueuePass) : Type 0 where
    pub seat_share : threads ≤ (view seat).share
    pub seat_free : (view seat).free_from + threads ≤ (view seat).free_to + 1
    pub pass_share : threads ≤ (pass_view pass).share
    pub pass_free : (pass_view pass).free_from + threads ≤ (pass_view pass).free_to + 1

  -- the first seat and the first pass, before anything was done
  pub record IsOpening (seat : Seat X G T d) (pass : QueuePass) : Type 0 where
    pub seat_share : (view seat).share ≡ whole_share
    pub seat_from : (view seat).free_from ≡ 1
    pub seat_to : (view seat).free_to ≡ whole_share
    pub held : (view seat).held ≡ []
    pub turns : (view seat).turns ≡ []
    pub knows : pass_view pass ≡ first_view

  -- The seat has the whole share again, holds no group, counts few turns, and can be split with the pass. The
  -- pass has the whole share again and took nothing, so the queue holds what it put.
  pub record HasOpened (turns : ℕ) (seat : Seat X G T d) (pass : QueuePass) : Type 0 where
    pub share : (view seat).share ≡ whole_share
    pub held : (view seat).held ≡ []
    pub few : length (view seat).turns ≤ turns
    pub splits : CanSplit MOST_THREADS seat pass
    pub pass_share : (pass_view pass).share ≡ WHOLE_SHARE
    pub none_taken : (pass_view pass).taken ≡ []
    pub queued : HoldsAllPut (pass_view pass)

  -- a seat and a pass that hold nothing, for so many threads, one at least, with the numbers from this one on
  pub record CanRun (slots : Slots X G T) (queue : EventQueue) (number threads : ℕ) (seat : Seat X G T d)
      (pass : QueuePass) : Type 0 where
    pub some : 0 < threads
    pub most : number + threads ≤ MOST_THREADS
    pub pair : IsPair slots queue seat pass
    pub idle : (view seat).held ≡ []
    pub splits : CanSplit threads seat pass

  -- What comes back of a seat and a pass after at most so many turns: the seat holds what it held, and the
  -- shares are as they were.
  pub record ComesBack (slots : Slots X G T) (queue : EventQueue) (seat : Seat X G T d) (pass : QueuePass)
      (turns : ℕ) (back : Seat X G T d × QueuePass × Bool) : Type 0 where
    pub pair : IsPair slots queue back.0 back.1
    pub keeps : KeepsSeat (view seat) (view back.0) turns
    pub share : KeepsShare pass back.1
