-- What is shared stands behind what was held.
use Rattle.std.proofs.Common.{◌<◌, ◌++◌, length, take, drop, sym, ap, subst, ◌∙◌, arith}
use Rattle.std.proofs.lemmas.List.Elements.{All-nil}
use Rattle.ts_iobuf.specs.Stored.{Contents, AreFull, joined, stored}
use Rattle.ts_iobuf.proofs.Cutting.{full-more, full-append, joined-append}
use Rattle.ts_iobuf.proofs.Storing.{held-len, held-none, joined-len}
use Rattle.ts_iobuf.proofs.store.Store.share_from.Goals as goal

-- where the block in filling holds nothing, the parts are added to the full blocks
pub invariant_of-self-then-self : goal.invariant_of-self-then-self
invariant_of-self-then-self c =
    let s = c.self.inside in
    let more = take c.args.count (drop c.args.at (joined c.args.from.now.blocks)) in
    record {
      blocks = c.in_ok-share_into.ensures.full c.self.invariant.blocks;
      count = omega (
        arith,
        c.in_ok-full.ensures.0,
        c.if-self.true,
        c.self.invariant.count,
        c.requires,
        joined-len s.blocks.items c.share_into.new.blocks.items more c.in_ok-share_into.ensures.ok,
      );
      fits = c.in_ok-full.ensures.1;
      start = c.self.invariant.start;
      filled = c.self.invariant.filled;
    }

-- where it holds some, it is sealed, and the parts are added behind it
pub invariant_of-self-2 : goal.invariant_of-self-2
invariant_of-self-2 c =
    let s = c.self.inside in
    let sealed = c.in_ok-seal.ensures.ok in
    let parts = c.share_into-2.new.blocks.items in
    let added = c.in-Ok.ensures.items in
    let none = c.new-parts.ensures.items in
    let more = take c.args.count (drop c.args.at (joined c.args.from.now.blocks)) in
    record {
      blocks = subst AreFull (sym added) (full-append c.seal.new.blocks.items parts
          (subst AreFull (sym sealed)
          (full-more s.blocks.items (stored s.start s.filled s.filling.items) c.self.invariant.blocks))
          (c.in_ok-share_into-2.ensures.full (subst AreFull (sym none) (All-nil (λ b. 0 < length b)))));
      count = omega (
        arith,
        c.in_ok-full.ensures.0,
        c.self.invariant.count,
        c.requires,
        held-len s.blocks.items s.start s.filled s.filling.items c.self.invariant.filled,
        ap (λ bs. length (joined bs)) sealed,
        joined-len c.seal.new.blocks.items c.append.new.self.items (joined parts)
            (ap joined added ∙ joined-append c.seal.new.blocks.items parts),
        joined-len c.new-parts.result.items parts
            more c.in_ok-share_into-2.ensures.ok,
        ap (λ bs. length (joined bs)) none,
      );
      fits = c.in_ok-full.ensures.1;
      start = omega (arith, c.in_ok-seal.ensures.empty);
      filled = omega (arith, c.in_ok-seal.ensures.empty, c.seal.new.filling.ok.0);
    }

pub returns-clause-ok : goal.returns-clause-ok
returns-clause-ok c =
    let parts = c.share_into-2.new.blocks.items in
    let more = take c.args.count (drop c.args.at (joined c.args.from.now.blocks)) in
    ap joined (held-none c.append.new.self.items c.seal.new.start c.seal.new.filled c.seal.new.filling.items
    c.in_ok-seal.ensures.empty.0)
    ∙ ap joined c.in-Ok.ensures.items
    ∙ joined-append c.seal.new.blocks.items parts
    ∙ ap (λ l. joined c.seal.new.blocks.items ++ l)
    (c.in_ok-share_into-2.ensures.ok ∙ ap (λ bs. joined bs ++ more) c.new-parts.ensures.items)
    ∙ ap (λ bs. joined bs ++ more) c.in_ok-seal.ensures.ok
    ∙ ap (λ (b : Contents). joined b.blocks ++ more) c.self.view_is
