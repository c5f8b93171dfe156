-- The front and the carrier belong together.
use Rattle.ts_request_tests.proofs.carrying.send_head.Given as goal

abbrev pub invariant-reads : goal.invariant-reads
invariant-reads g l = g.U.Upstream.paired l.front l.carrier
