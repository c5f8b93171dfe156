-- How a journal goes on under its driver, and how it stands once all of its events are handled.
use Rattle.std.specs.Prelude.{◌≡◌, ℕ, ◌+◌, ◌-◌, ◌≤◌, false, List, [], ◌∷◌, ⊤, max}
use Rattle.ts_journal.specs.declared.entry.Entry.{Entry}
use Rattle.ts_journal.specs.declared.entry.Entry.TheVariants.{Took, Gave, Handled}
use Rattle.ts_journal.specs.declared.entry.Pending.{Pending}
use Rattle.ts_journal.specs.State.{State, fresh_with}
use Rattle.ts_journal.specs.Log.{Log, Extends, GoesOn, new_base}
use Rattle.ts_journal.specs.Laws.{NoTurns}
use Rattle.ts_journal.specs.Machine.{after}
use Rattle.ts_group.specs.declared.group.TheConstants.{MOST_EVENTS}
use Rattle.ts_group.specs.Context.{own_key}
use Rattle.ts_group.specs.Due.{IsFirstDue}
use Rattle.ts_journal.specs.Final.{IsFinal}

-- the seat of a driver that nobody else drives beside
abbrev pub only_seat : ℕ
only_seat = 0

-- the turn in which the work begins
abbrev pub opening_turn : ℕ
opening_turn = 1

-- the moment at which the work begins
abbrev pub first_moment : ℕ
first_moment = 0

-- the moment of the last event that these entries handle, or the one before them
abbrev pub last_moment : ℕ → List Entry → ℕ
last_moment m [] = m
last_moment m (Handled number moment ∷ es) = last_moment moment es
last_moment m (_ ∷ es) = last_moment m es

-- The event of this number is pending, and no pending event is due before it. The moment is the later one of
-- the moment before and that at which the event is due.
abbrev pub IsNextDue : ℕ → State → ℕ → ℕ → Type 0
IsNextDue m s number moment = (p : Pending) × (p.number ≡ number) × (moment ≡ max m p.due) × IsFirstDue s p

-- what is left of a turn handles at most so many events, each at this moment, under numbers that rise from
-- this one on
abbrev pub HandlesFrom : ℕ → ℕ → ℕ → List Entry → Type 0
HandlesFrom low now most [] = ⊤
HandlesFrom low now most (Took turn seat ∷ es) = ⊤
HandlesFrom low now most (Gave turn ∷ es) = ⊤
HandlesFrom low now most (Handled number moment ∷ es) =
    (low ≤ number) × (moment ≡ now) × (1 ≤ most) × HandlesFrom (number + 1) now (most - 1) es
HandlesFrom low now most (_ ∷ es) = HandlesFrom low now most es

-- The event that a turn handles first is due first, and those that it handles then, in the order of their
-- numbers, were set since. The moment moves on from the one before to that at which the first is due, if that
-- is later, and stays for the turn. Only the first turn, in which the work begins, may handle nothing.
abbrev pub HandlesFirst : ℕ → State → List Entry → Type 0
HandlesFirst m s [] = ⊤
HandlesFirst m s (Took turn seat ∷ es) = ⊤
HandlesFirst m s (Gave turn ∷ es) = turn ≡ opening_turn
HandlesFirst m s (Handled number moment ∷ es) =
    IsNextDue m s number moment × HandlesFrom s.next moment (MOST_EVENTS - 1) es
HandlesFirst m s (e ∷ es) = HandlesFirst m (after s e) es

-- The turns of one driver that nobody else drives beside, from a moment of it on: each has its seat and the
-- number after the one before. It handles one event, which is due first, and then only what is set while it
-- is handled, at most 64 in all; the first turn may handle nothing. The driver's moment moves on to what is
-- due, and no further.
abbrev pub IsSerial : ℕ → State → List Entry → Type 0
IsSerial m s [] = ⊤
IsSerial m s (Took turn seat ∷ es) =
    (turn ≡ s.turns + 1) × (seat ≡ only_seat)
    × HandlesFirst m (after s (Took turn seat)) es × IsSerial m (after s (Took turn seat)) es
IsSerial m s (Handled number moment ∷ es) = IsSerial moment (after s (Handled number moment)) es
IsSerial m s (e ∷ es) = IsSerial m (after s e) es

-- a journal goes on from the beginning of a turn, within that turn, before which its driver was at a moment
pub record GoesOnWithin (before : ℕ) (old new : Log) : Type 0 where
  pub added : List Entry
  pub by : Extends old new added
  pub within : NoTurns added
  pub first : HandlesFirst before old.state added

-- one of these entries handles an event
abbrev pub HandlesSome : List Entry → Type 0
HandlesSome [] = ⊥
HandlesSome (Handled number moment ∷ es) = ⊤
HandlesSome (_ ∷ es) = HandlesSome es

-- within a turn, a journal goes on with an event that is handled, and its driver comes from one moment to
-- another
pub record HandlesWithin (before moment : ℕ) (old new : Log) : Type 0 where
  pub on : GoesOnWithin before old new
  pub some : HandlesSome on.added
  pub now : last_moment before on.added ≡ moment

-- the same, whenever the event of this number is what the driver handles next
abbrev pub HandlesNext : ℕ → ℕ → Log → Log → Type 0
HandlesNext number moment old new =
    (before : ℕ) → IsNextDue before old.state number moment → HandlesWithin before moment old new

-- a journal goes on by turns of the serial driver, which is at a moment before them
pub record GoesOnSerially (before : ℕ) (old new : Log) : Type 0 where
  pub turns : List Entry
  pub by : GoesOn old new turns
  pub serial : IsSerial before old.state turns

-- a journal goes on by turns of the serial driver, which comes from one moment to another
pub record GoesOnTo (before moment : ℕ) (old new : Log) : Type 0 where
  pub on : GoesOnSerially before old new
  pub now : last_moment before on.turns ≡ moment

-- the same, whenever the event of this number is what the driver handles next
abbrev pub TakesNext : ℕ → ℕ → Log → Log → Type 0
TakesNext number moment old new =
    (before : ℕ) → IsNextDue before old.state number moment → GoesOnTo before moment old new

-- a journal of which no turn was taken yet
pub record IsUnused (log : Log) : Type 0 where
  pub idle : log.state.held ≡ false
  pub none : log.state.turns ≡ 0

-- a journal goes on by turns of the serial driver from its first moment on, until nothing is pending
pub record EndsSerially (old new : Log) : Type 0 where
  pub on : GoesOnSerially first_moment old new
  pub given : new.state.held ≡ false
  pub none : new.state.pending ≡ []

-- a journal that was just made in this state
abbrev pub new_log : State → Log
new_log s = record {
  base = new_base s;
  entries = [];
  state = s;
  room = 0;
  set_room = 0;
  key_room = 0;
}

-- The journal of a new group that the serial driver alone drove, to its end, by these turns. It stores the
-- last of them, from its base on.
pub record IsOfDriver (j : Log) : Type 0 where
  pub turns : List Entry
  pub on : GoesOn (new_log (fresh_with 0 own_key)) j turns
  pub serial : IsSerial first_moment (fresh_with 0 own_key) turns
  pub final : IsFinal j
