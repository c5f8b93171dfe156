use Rattle.ts_queue.specs.Passes.{IsPassOf}
use Rattle.ts_thread_tests.proofs.turns.take_all.Given as goal

abbrev pub invariant-takes : goal.invariant-takes
invariant-takes g l = IsPassOf l.queue l.pass
