-- What was held is in full blocks now, with the new one behind them.
use Rattle.std.proofs.Common.{◌≡◌, ◌<◌, ◌++◌, length, sym, ap, subst, ◌∙◌, arith}
use Rattle.ts_iobuf.specs.Buffer.{one_block}
use Rattle.ts_iobuf.specs.Stored.{AreFull, joined, stored}
use Rattle.ts_iobuf.proofs.Cutting.{full-more, joined-more, some-block}
use Rattle.ts_iobuf.proofs.Storing.{held-len, joined-len}
use Rattle.ts_iobuf.proofs.store.Store.push.Goals as goal

pub invariant_of-self-2 : goal.invariant_of-self-2
invariant_of-self-2 c =
    let s = c.self.inside in
    let block = c.in_ok-block.block in
    let sealed = c.in_ok-seal.ensures.ok in
    let some : 0 < length block = omega (arith, c.requires, ap length c.in_ok-block.ensures.ok) in
    let pushed : c.push_back_reserved.new.self.items ≡ c.seal.new.blocks.items ++ one_block block =
    c.push_back_reserved.ensures.items
    ∙ ap (λ bs. c.seal.new.blocks.items ++ bs) (sym (some-block block some)) in
    record {
      blocks = subst AreFull (sym pushed) (full-more c.seal.new.blocks.items block (subst AreFull (sym sealed)
          (full-more s.blocks.items (stored s.start s.filled s.filling.items) c.self.invariant.blocks)));
      count = omega (
        arith,
        c.in_ok-full.ensures.0,
        c.self.invariant.count,
        held-len s.blocks.items s.start s.filled s.filling.items c.self.invariant.filled,
        ap (λ bs. length (joined bs)) sealed,
        joined-len c.seal.new.blocks.items c.push_back_reserved.new.self.items block
            (ap joined pushed ∙ joined-more c.seal.new.blocks.items block),
        c.len.ensures,
        c.args.block.ok.0,
        ap length c.in_ok-block.ensures.ok,
      );
      fits = c.in_ok-full.ensures.1;
      start = omega (arith, c.in_ok-seal.ensures.empty);
      filled = omega (arith, c.in_ok-seal.ensures.empty, c.seal.new.filling.ok.0);
    }
