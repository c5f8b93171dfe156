-- What a turn answers, by the state of the group that it found and of the one that it left.
use Rattle.std.specs.Prelude.{◌≡◌, ◌≢◌, ℕ, ◌+◌, ◌<◌, ◌≤◌, ◌⊎◌, List, None, Some}
use Rattle.ts_journal.specs.declared.entry.Pending.{Pending}
use Rattle.ts_journal.specs.State.{State, pending_at}
use Rattle.ts_group.specs.declared.group.TheConstants.{MOST_EVENTS}
use Rattle.ts_slot.specs.declared.view.SeatView.{SeatView}
use Rattle.ts_queue.specs.declared.ticket.Token.{Token}
use Rattle.ts_wheel.specs.Due.{added}
use Rattle.ts_thread.specs.declared.did.Did.{Did}
use Rattle.ts_thread.specs.declared.did.Did.TheVariants as did
use Rattle.ts_thread.specs.Seats.{CountsSame, CountsTurn, CountsMiss}

-- The event of a number was pending and due, and was handled.
pub record WasDue (found left : State) (number moment : ℕ) : Type 0 where
  pub event : Pending
  pub there : pending_at number found.pending ≡ Some event
  pub due : event.due ≤ moment
  pub gone : pending_at number left.pending ≡ None

-- So many events were handled, of which that of the number was the first.
pub record HandledDue (found left : State) (number moment events : ℕ) : Type 0 where
  pub was_due : WasDue found left number moment
  pub some : 1 ≤ events
  pub most : events ≤ MOST_EVENTS
  pub rise : left.handled_count ≡ found.handled_count + events

-- The event of a number was pending, was due later, and is pending.
pub record WasLate (found left : State) (number moment due : ℕ) : Type 0 where
  pub event : Pending
  pub there : pending_at number found.pending ≡ Some event
  pub stays : pending_at number left.pending ≡ Some event
  pub is_due : event.due ≡ due
  pub late : moment < due

-- the event of a number was not pending, and is not
pub record WasStale (found left : State) (number : ℕ) : Type 0 where
  pub was_gone : pending_at number found.pending ≡ None
  pub gone : pending_at number left.pending ≡ None

-- what an answer says of the group in which the token's number was looked for
abbrev pub IsShown : State → State → ℕ → ℕ → Did → Type 0
IsShown found left number moment (did.Ran events) = HandledDue found left number moment events
IsShown found left number moment (did.PutBack group seen) = ⊥
IsShown found left number moment (did.AskMissed group seen) = WasDue found left number moment
IsShown found left number moment did.Stale = WasStale found left number
IsShown found left number moment (did.NotDue due) = WasLate found left number moment due
IsShown found left number moment did.Idle = ⊥

-- What the seat counts beside the turn of the group k: a turn of another group that was asked, a miss of it,
-- or nothing.
abbrev pub IsCounted : {G T : Type 0} → ℕ → SeatView G T → SeatView G T → Did → Type 0
IsCounted k old new (did.Ran events) = CountsSame old new ⊎ ((to : ℕ) × (to ≢ k) × CountsTurn to old new)
IsCounted k old new (did.PutBack group seen) = ⊥
IsCounted k old new (did.AskMissed group seen) = (group ≢ k) × CountsMiss group seen old new
IsCounted k old new did.Stale = CountsSame old new
IsCounted k old new (did.NotDue due) = CountsSame old new
IsCounted k old new did.Idle = ⊥

-- the wheel in which the token waits whose event is due later
abbrev pub waiting : Did → Token → List (ℕ × Token) → List (ℕ × Token)
waiting (did.NotDue due) token wheel = added due token wheel
waiting _ token wheel = wheel
