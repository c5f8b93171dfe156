-- The blocks after a place are those of the list that is held.
use Rattle.std.proofs.Common.{subst}
use Rattle.ts_iobuf.specs.Stored.{Contents, AreFull, stored}
use Rattle.ts_iobuf.proofs.Cutting.{after-full, full-more, joined-after}
use Rattle.ts_iobuf.proofs.store.Store.block.Goals as goal

pub returns-clause-joined : goal.returns-clause-joined
returns-clause-joined c = joined-after c.args.at c.args.self.now.blocks

pub returns-clause-full : goal.returns-clause-full
returns-clause-full c =
    let s = c.self.inside in
    after-full c.args.at c.args.self.now.blocks
    (subst (λ (b : Contents). AreFull b.blocks) c.self.view_is
    (full-more s.blocks.items (stored s.start s.filled s.filling.items) c.self.invariant.blocks))
