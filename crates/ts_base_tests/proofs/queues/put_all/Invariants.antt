use Rattle.std.proofs.Common.{◌≡◌, ◌≤◌}
use Rattle.ts_queue.specs.Passes.{pass_view, IsPassOf}
use Rattle.ts_base_tests.proofs.queues.put_all.Given as goal

abbrev pub invariant-puts : goal.invariant-puts
invariant-puts g l = IsPassOf l.queue l.pass × ((pass_view l.pass).share ≡ (pass_view l.initial.pass).share) ×
    ((pass_view l.pass).serial ≤ l.number)
