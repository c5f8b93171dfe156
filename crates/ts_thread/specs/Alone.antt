-- The turns of groups that nobody else has: one thread takes them, one after the other.
use Rattle.std.specs.Prelude.{◌≡◌, ◌≢◌, ◌⊎◌, ℕ, zero, suc, ◌+◌, ◌≤◌, List, [], ◌∷◌, ◌++◌, length}
use Rattle.ts_journal.specs.declared.entry.Entry.{Entry}
use Rattle.ts_journal.specs.declared.entry.Entry.TheVariants.{Took, Gave, Handled}
use Rattle.ts_journal.specs.State.{State}
use Rattle.ts_journal.specs.Machine.{replay}
use Rattle.ts_journal.specs.Log.{Log, GoesOn}
use Rattle.ts_group.specs.declared.group.Group.{Group}
use Rattle.ts_group.specs.Due.{IsDueFirst}
use Rattle.ts_group.specs.Entries.{asking_entries}
use Rattle.ts_group.specs.declared.alone.TheConstants.{ONLY_SEAT}

-- these entries begin with the event that is due first, which is handled at the moment at which it is due
pub record HandlesDue (s : State) (es : List Entry) : Type 0 where
  pub number : ℕ
  pub due : ℕ
  pub first : IsDueFirst s due number
  pub others : List Entry
  pub are : es ≡ Handled number due ∷ others

-- these entries begin with a question, which is set and handled
pub record HandlesQuestion (s : State) (es : List Entry) : Type 0 where
  pub moment : ℕ
  pub others : List Entry
  pub are : es ≡ asking_entries s.next moment ++ others

-- A whole turn, under the next number: it handles the event that is due first, or a question. It handles
-- nothing only where something lacks.
pub record IsOwnTurn (Lack : Type 0) (s : State) (es : List Entry) : Type 0 where
  pub did : List Entry
  pub are : es ≡ Took (s.turns + 1) ONLY_SEAT ∷ (did ++ Gave (s.turns + 1) ∷ [])
  pub first : (Lack × (did ≡ [])) ⊎ HandlesDue s did ⊎ HandlesQuestion s did

-- these entries are so many turns
abbrev pub AreOwnTurns : Type 0 → ℕ → State → List Entry → Type 0
AreOwnTurns Lack zero s es = es ≡ []
AreOwnTurns Lack (suc n) s es = (turn : List Entry) × (others : List Entry)
    × IsOwnTurn Lack s turn × (es ≡ turn ++ others) × AreOwnTurns Lack n (replay s turn) others

-- a journal goes on by at most so many turns, after each of which it may be folded
pub record TakesTurns (Lack : Type 0) (old new : Log) (most : ℕ) : Type 0 where
  pub turns : ℕ
  pub few : turns ≤ most
  pub added : List Entry
  pub by : GoesOn old new added
  pub are : AreOwnTurns Lack turns old.state added

-- One group of a row had one turn more, if an event of it was pending.
pub record HasStepped {W Q R T U : Type 0} (place : ℕ) (old new : List (Group W Q R T U)) : Type 0 where
  pub before : List (Group W Q R T U)
  pub before' : List (Group W Q R T U)
  pub group : Group W Q R T U
  pub group' : Group W Q R T U
  pub after : List (Group W Q R T U)
  pub after' : List (Group W Q R T U)
  pub at_place : length before ≡ place
  pub old_is : old ≡ before ++ group ∷ after
  pub new_is : new ≡ before' ++ group' ∷ after'
  pub turn : group.cx.log.state.pending ≢ [] → group'.cx.log.state.turns ≡ group.cx.log.state.turns + 1
