-- The front and the carrier belong together.
use Rattle.ts_request_tests.proofs.carrying.move_all.Given as goal

abbrev pub invariant-uploads : goal.invariant-uploads
invariant-uploads g l = g.U.Upstream.paired l.front l.carrier
