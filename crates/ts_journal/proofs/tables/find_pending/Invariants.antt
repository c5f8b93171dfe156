-- So far no event that was passed has the number.
use Rattle.std.proofs.Common.{◌≡◌, ◌++◌, take, drop}
use Rattle.ts_journal.specs.State.{pending_at, without}
use Rattle.ts_journal.proofs.tables.find_pending.Given as goal

abbrev pub invariant-loop-i : goal.invariant-loop-i
invariant-loop-i l =
    (pending_at l.number (drop l.i l.pending) ≡ pending_at l.number l.pending)
    × (take l.i l.pending ++ without l.number (drop l.i l.pending) ≡ without l.number l.pending)
