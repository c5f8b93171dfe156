use Rattle.std.proofs.Common.{◌≡◌}
use Rattle.ts_thread_tests.proofs.Ends.{workers_tags}
use Rattle.ts_thread_tests.proofs.row.make_tags.Given as goal

abbrev pub invariant-workers : goal.invariant-workers
invariant-workers g l = l.tags.items ≡ workers_tags l._place
