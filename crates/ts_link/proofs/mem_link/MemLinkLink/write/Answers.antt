-- The answer, and the link after it, are those of one write.
use Rattle.std.proofs.Common.{subst, sym}
use Rattle.ts_link.specs.Link.{Writes}
use Rattle.ts_link.specs.MemLink.{LinkState, look_of}
use Rattle.std.specs.Prelude.{true}
use Rattle.ts_link.proofs.MemWrites.{writes_right}
use Rattle.ts_link.proofs.mem_link.MemLinkLink.write.Goals as goal

pub returns-clause-writes : goal.returns-clause-writes
returns-clause-writes c =
    let e = c.write_once.ensures in
    subst (λ (t : LinkState). Writes true (look_of c.args.self.now) (look_of t) c.write_once.result
    c.args.piece.now) (sym e.after)
    (writes_right c.args.self.now c.args.piece.now c.write_once.result e.most c.requires e.answer e.calls
    e.faults e.waits)
