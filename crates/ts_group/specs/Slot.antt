-- What a mutex slot sees of a group.
use Rattle.std.specs.Prelude.{◌≡◌, ℕ, ◌+◌, ◌*◌, ◌≤◌, List, [], ◌∷◌, ◌++◌, Option, Some, None, Bool, false, length, nat_lt, if◌then◌else◌}
use Rattle.std.specs.Bool.{OnTrue}
use Rattle.ts_journal.specs.declared.entry.Entry.{Entry}
use Rattle.ts_journal.specs.declared.entry.Entry.TheVariants.{Took}
use Rattle.ts_journal.specs.declared.entry.Mark.{Mark}
use Rattle.ts_journal.specs.State.{State}
use Rattle.ts_journal.specs.Log.{Log}
use Rattle.ts_group.specs.declared.slot.TheConstants.{MOST_IN_TURN}

-- the turns that the entries record, each with its seat
abbrev pub marks_of : List Entry → List (ℕ × ℕ)
marks_of [] = []
marks_of (Took turn seat ∷ es) = (turn, seat) ∷ marks_of es
marks_of (_ ∷ es) = marks_of es

-- the turn that was taken last of those that a base records
abbrev pub mark_of : Option Mark → List (ℕ × ℕ)
mark_of None = []
mark_of (Some m) = (m.turn, m.seat) ∷ []

-- the turns that a journal records: the last of those that were folded, and those of its entries
abbrev pub marks_in : Log → List (ℕ × ℕ)
marks_in log = mark_of log.base.mark ++ marks_of log.entries

-- a journal that stores so many entries or more when a turn is given back is folded
abbrev pub most_stored : ℕ
most_stored = 4096

-- what a journal stores of these entries once a turn was given back: none of them where they are many
abbrev pub stored_of : List Entry → List Entry
stored_of es = if nat_lt (length es) most_stored then es else []

-- No turn is held, and few events were set for each turn: one where the world is only asked, which has
-- nothing pending then, and elsewhere as many as a turn sets at most.
abbrev pub IsAtRest : Bool → State → Type 0
IsAtRest only_asked s =
    (s.held ≡ false)
    × (s.next ≤ (if only_asked then s.turns + 1 else MOST_IN_TURN * s.turns + 1))
    × OnTrue only_asked (s.pending ≡ [])
