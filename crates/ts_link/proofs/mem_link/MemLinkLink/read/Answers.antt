-- The answer, and the link after it, are those of one read.
use Rattle.std.proofs.Common.{length, arith}
use Rattle.ts_link.proofs.MemReads.{reads_right, waits_exactly}
use Rattle.ts_link.proofs.mem_link.MemLinkLink.read.Goals as goal

pub returns-clause-reads : goal.returns-clause-reads
returns-clause-reads c =
    let e = c.read_once.ensures in
    reads_right c.args.self.now c.read_once.new.link c.read_once.result c.read_once.new.into
    (length c.args.into.now) e.answer e.after
    (omega arith) c.requires e.calls e.faults e.waits e.sound e.bytes

pub returns-clause-stalls : goal.returns-clause-stalls
returns-clause-stalls c =
    let e = c.read_once.ensures in
    waits_exactly c.args.self.now c.read_once.result (length c.args.into.now) e.answer e.sound
