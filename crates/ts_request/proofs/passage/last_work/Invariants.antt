-- No stage from here on must work.
use Rattle.std.proofs.Common.{◌≤◌, ℕ}
use Rattle.ts_transform.specs.Flow.{MustWork}
use Rattle.ts_request.proofs.passage.last_work.Given as goal

abbrev pub invariant-stages : goal.invariant-stages
invariant-stages g l = (j : ℕ) → l.above ≤ j → MustWork l.chain j → ⊥

abbrev pub decreases-stages : goal.decreases-stages
decreases-stages g l = l.above
