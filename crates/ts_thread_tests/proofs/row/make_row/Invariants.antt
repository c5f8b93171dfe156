use Rattle.ts_thread_tests.proofs.Ends.{IsFilling}
use Rattle.ts_thread_tests.proofs.row.make_row.Given as goal

abbrev pub invariant-workers : goal.invariant-workers
invariant-workers g l = IsFilling l.place l.started l.groups.items
