-- The turn goes on.
use Rattle.std.specs.Prelude.{◌≡◌, true}
use Rattle.ts_transform_tests.proofs.driven.runs_through.Given as goal

abbrev pub invariant-events : goal.invariant-events
invariant-events l = record { turn : l.cx.log.state.held ≡ true }
