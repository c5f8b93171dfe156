-- The full blocks are passed first, and then the front of the block in filling.
use Rattle.std.proofs.Common.{◌+◌, ◌≤◌, length, drop, sym, ap, subst, ◌∙◌, arith, length-drop}
use Rattle.ts_iobuf.specs.Stored.{Contents, AreFull, held, joined}
use Rattle.ts_iobuf.proofs.Cutting.{after-full, joined-after}
use Rattle.ts_iobuf.proofs.Storing.{held-passed, passed-within}
use Rattle.ts_iobuf.proofs.store.Store.consume.Goals as goal

pub overflow_add-self : goal.overflow_add-self
overflow_add-self c =
    let s = c.self.inside in
    let few : s.start + c.pass-left.result ≤ s.filled =
    passed-within s.blocks.items s.start s.filled c.args.n c.pass-left.result s.filling.items
    c.self.invariant.start c.self.invariant.filled
    (subst (λ (b : Contents). c.args.n ≤ length (joined b.blocks)) (sym c.self.view_is) c.requires)
    c.pass-left.ensures.left in
    omega (arith, few, c.self.invariant.filled, s.filling.ok, s.filling.small)

pub invariant_of-self : goal.invariant_of-self
invariant_of-self c =
    let s = c.self.inside in
    let passed = c.pass-left.ensures.blocks in
    record {
      blocks = subst AreFull (sym passed) (after-full c.args.n s.blocks.items c.self.invariant.blocks);
      count = omega (
        arith,
        ap (λ bs. length (joined bs)) passed,
        ap length (joined-after c.args.n s.blocks.items),
        length-drop c.args.n (joined s.blocks.items),
        c.self.invariant.count,
        c.pass-left.ensures.left,
      );
      fits = omega (arith, c.self.invariant.fits);
      start = passed-within s.blocks.items s.start s.filled c.args.n c.pass-left.result s.filling.items
          c.self.invariant.start c.self.invariant.filled
          (subst (λ (b : Contents). c.args.n ≤ length (joined b.blocks)) (sym c.self.view_is) c.requires)
          c.pass-left.ensures.left;
      filled = c.self.invariant.filled;
    }

pub returns-clause-bytes : goal.returns-clause-bytes
returns-clause-bytes c =
    let s = c.self.inside in
    let left = c.pass-left.result in
    ap (λ bs. joined (held bs (s.start + left) s.filled s.filling.items)) c.pass-left.ensures.blocks
    ∙ held-passed s.blocks.items s.start s.filled c.args.n left s.filling.items c.pass-left.ensures.left
    ∙ ap (λ (b : Contents). drop c.args.n (joined b.blocks)) c.self.view_is
