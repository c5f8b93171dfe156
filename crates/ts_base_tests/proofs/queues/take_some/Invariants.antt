use Rattle.std.proofs.Common.{◌≡◌}
use Rattle.ts_queue.specs.Passes.{pass_view, IsPassOf}
use Rattle.ts_base_tests.proofs.queues.take_some.Given as goal

abbrev pub invariant-takes : goal.invariant-takes
invariant-takes g l = IsPassOf l.queue l.pass × ((pass_view l.pass).share ≡ (pass_view l.initial.pass).share)
