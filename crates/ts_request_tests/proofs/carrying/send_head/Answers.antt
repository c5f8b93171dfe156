-- A read of the front and a write to the carrier keep the pair.
use Rattle.ts_request_tests.proofs.carrying.send_head.Goals as goal

pub reads-preserved : goal.reads-preserved
reads-preserved g c =
    g.met.U.Upstream.pair_stays c.read.new.self c.read.new.self c.reads.carrier c.write.new.self
    (g.met.U.Upstream.pair_stays c.reads.front c.read.new.self c.reads.carrier c.reads.carrier c.reads.invariant
    c.read.ensures.goes (g.met.U.Link.stays c.reads.carrier))
    (g.met.F.Link.stays c.read.new.self) c.write.ensures.goes
