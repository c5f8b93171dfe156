use Rattle.ts_queue.specs.Passes.{IsPassOf}
use Rattle.ts_thread_tests.proofs.turns.put_all.Given as goal

abbrev pub invariant-tokens : goal.invariant-tokens
invariant-tokens g l = IsPassOf l.queue l.pass
