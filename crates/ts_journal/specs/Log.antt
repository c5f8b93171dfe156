-- What a contract sees of a journal, and how a journal goes on.
use Rattle.std.specs.Prelude.{◌≡◌, ℕ, ◌<◌, ◌≤◌, List, [], ◌∷◌, ◌++◌, Option, Some, None, min}
use Rattle.ts_journal.specs.declared.entry.Entry.{Entry}
use Rattle.ts_journal.specs.declared.entry.Entry.TheVariants.{Took, Made, Set}
use Rattle.ts_journal.specs.declared.entry.Mark.{Mark}
use Rattle.ts_journal.specs.State.{State}
use Rattle.ts_journal.specs.Machine.{IsLawful, replay}

-- Where the entries of a journal begin: the state there; with how many turns the journal was made; and, where
-- entries were folded, the turn that was taken last among them, with its seat.
pub record Base : Type 0 where
  pub state : State
  pub made : ℕ
  pub mark : Option Mark

-- where a new journal begins, of which nothing was folded
abbrev pub new_base : State → Base
new_base s = record { state = s; made = s.turns; mark = None }

-- Where the entries of a journal begin, these entries and the state that they lead to. Then how much can be
-- added without memory: so many entries, so many pending events, so many keys.
pub record Log : Type 0 where
  pub base : Base
  pub entries : List Entry
  pub state : State
  pub room : ℕ
  pub set_room : ℕ
  pub key_room : ℕ

-- a journal goes on by these entries, each allowed where it stands
pub record Extends (old new : Log) (added : List Entry) : Type 0 where
  pub base : new.base ≡ old.base
  pub entries : new.entries ≡ old.entries ++ added
  pub lawful : IsLawful old.state added
  pub state : new.state ≡ replay old.state added

-- the turn that was taken last, by these entries or before them
abbrev pub mark_after : Option Mark → List Entry → Option Mark
mark_after last [] = last
mark_after last (Took turn seat ∷ es) = mark_after (Some (record { turn = turn; seat = seat })) es
mark_after last (_ ∷ es) = mark_after last es

-- All entries went into the base. The state, and with it all that is allowed from there on, is as it was.
pub record Folds (old new : Log) : Type 0 where
  pub state : new.state ≡ old.state
  pub entries : new.entries ≡ []
  pub base_state : new.base.state ≡ old.state
  pub made : new.base.made ≡ old.base.made
  pub mark : new.base.mark ≡ mark_after old.base.mark old.entries

-- A journal goes on by these entries, each allowed where it stands; then some at the front of all went into
-- the base.
pub record GoesOn (old new : Log) (added : List Entry) : Type 0 where
  pub folded : List Entry
  pub entries : old.entries ++ added ≡ folded ++ new.entries
  pub base_state : new.base.state ≡ replay old.base.state folded
  pub made : new.base.made ≡ old.base.made
  pub mark : new.base.mark ≡ mark_after old.base.mark folded
  pub lawful : IsLawful old.state added
  pub state : new.state ≡ replay old.state added

-- the same journal; its room may have changed
pub record IsSameLog (old new : Log) : Type 0 where
  pub base : new.base ≡ old.base
  pub entries : new.entries ≡ old.entries
  pub state : new.state ≡ old.state

-- the places for pending events that an entry takes
abbrev pub set_places : Entry → ℕ
set_places (Set number key event due series period) = 1
set_places _ = 0

-- the places for keys that an entry takes
abbrev pub key_places : Entry → ℕ
key_places (Made key) = 1
key_places _ = 0

-- an entry can be added without memory
pub record HasRoom (log : Log) (entry : Entry) : Type 0 where
  pub entries : 0 < log.room
  pub sets : set_places entry ≤ log.set_room
  pub keys : key_places entry ≤ log.key_room

-- a journal has room for so many entries, whatever they are
pub record HasRoomFor (log : Log) (entries : ℕ) : Type 0 where
  pub room : entries ≤ log.room
  pub set_room : entries ≤ log.set_room
  pub key_room : entries ≤ log.key_room

-- a journal has as much room as it had, or more
pub record KeepsRoom (old new : Log) : Type 0 where
  pub room : old.room ≤ new.room
  pub set_room : old.set_room ≤ new.set_room
  pub key_room : old.key_room ≤ new.key_room

-- Memory was given back: of the room for entries a journal keeps so much, if it had it, and for pending events
-- and for keys it has none until more is reserved.
pub record IsTrimmed (entries : ℕ) (old new : Log) : Type 0 where
  pub room : new.room ≡ min entries old.room
  pub set_room : new.set_room ≡ 0
  pub key_room : new.key_room ≡ 0
