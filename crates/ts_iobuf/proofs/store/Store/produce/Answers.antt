-- The free bytes that are added stand right behind those that are held.
use Rattle.std.proofs.Common.{◌++◌, take, ap, ◌∙◌}
use Rattle.ts_iobuf.specs.Stored.{Contents, joined}
use Rattle.ts_iobuf.proofs.Storing.{held-produced}
use Rattle.ts_iobuf.proofs.store.Store.produce.Goals as goal

pub returns : goal.returns
returns c =
    let s = c.self.inside in
    held-produced s.blocks.items s.start s.filled c.args.n s.filling.items c.self.invariant.start
    c.self.invariant.filled
    ∙ ap (λ (b : Contents). joined b.blocks ++ take c.args.n b.behind) c.self.view_is
