use Rattle.std.proofs.Common.{◌≡◌}
use Rattle.ts_queue.specs.declared.TheConstants.{WHOLE_SHARE}
use Rattle.ts_queue.specs.Passes.{pass_view, IsPassOf}
use Rattle.ts_base_tests.proofs.queues.exchange.Given as goal

abbrev pub invariant-rest : goal.invariant-rest
invariant-rest g l = IsPassOf l.queue l.pass × ((pass_view l.pass).share ≡ WHOLE_SHARE)
