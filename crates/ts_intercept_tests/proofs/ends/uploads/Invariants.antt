-- The client belongs to the origin, as it did.
use Rattle.ts_intercept_tests.proofs.ends.uploads.Given as goal

abbrev pub invariant-calls : goal.invariant-calls
invariant-calls g l = g.O.Upstream.paired l.client l.origin
