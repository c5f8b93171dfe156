-- So far the turn that was taken last is the one found.
use Rattle.std.proofs.Common.{◌≡◌, drop}
use Rattle.ts_journal.specs.Log.{mark_after}
use Rattle.ts_journal.proofs.journal.last_mark.Given as goal

abbrev pub invariant-loop-entry : goal.invariant-loop-entry
invariant-loop-entry l = mark_after l.last (drop l.entry-index l.entries) ≡ mark_after l.fn.before l.entries
