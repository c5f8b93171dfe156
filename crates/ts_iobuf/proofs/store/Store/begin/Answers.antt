-- What was held is in full blocks now, and the new block is all that is in filling.
use Rattle.std.proofs.Common.{length, sym, ap, subst, arith}
use Rattle.ts_iobuf.specs.Stored.{AreFull, joined, stored}
use Rattle.ts_iobuf.proofs.Cutting.{full-more}
use Rattle.ts_iobuf.proofs.Storing.{held-len}
use Rattle.ts_iobuf.proofs.store.Store.begin.Goals as goal

pub invariant_of-self-2 : goal.invariant_of-self-2
invariant_of-self-2 c =
    let s = c.self.inside in
    let sealed = c.in_ok-seal.ensures.ok in
    record {
      blocks = subst AreFull (sym sealed)
          (full-more s.blocks.items (stored s.start s.filled s.filling.items) c.self.invariant.blocks);
      count = omega (
        arith,
        c.in_ok-full.ensures.0,
        c.self.invariant.count,
        ap (λ bs. length (joined bs)) sealed,
        held-len s.blocks.items s.start s.filled s.filling.items c.self.invariant.filled,
      );
      fits = c.in_ok-full.ensures.1;
      start = omega arith;
      filled = omega (arith, c.args.block.ok.0, c.requires);
    }
