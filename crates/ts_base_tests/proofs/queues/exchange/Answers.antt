use Rattle.std.proofs.Common.{ap, ◌∙◌}
use Rattle.ts_queue.specs.declared.view.PassView.{PassView}
use Rattle.ts_base_tests.proofs.queues.exchange.Goals as goal

-- the pass has the whole share, and found the queue empty
pub returns-in-None-take-clause-all : goal.returns-in-None-take-clause-all
returns-in-None-take-clause-all g c =
    let found = c.in-None-take.ensures in found.empty.whole
    (ap (λ (v : PassView). v.share) found.same ∙ c.rest.invariant.1)
