-- The parts stand right behind the bytes that were filled.
use Rattle.std.proofs.Common.{◌++◌, ap, ◌∙◌}
use Rattle.std.specs.List.{flat_map}
use Rattle.ts_iobuf.specs.Stored.{Contents, held, joined}
use Rattle.ts_iobuf.proofs.Storing.{held-put}
use Rattle.ts_iobuf.proofs.store.Store.write_parts.Goals as goal

pub returns-then-count-capacity-clause-ok : goal.returns-then-count-capacity-clause-ok
returns-then-count-capacity-clause-ok c =
    let s = c.self.inside in
    let parts = flat_map (λ p. p.now) c.args.parts.now in
    ap (λ n. joined (held s.blocks.items s.start n c.put_parts.new.filling.items))
    (c.len-self-inside.ensures ∙ c.put_parts.new.filling.ok.0)
    ∙ held-put s.blocks.items s.start s.filled s.filling.items parts c.put_parts.new.filling.items
    c.self.invariant.start c.self.invariant.filled c.put_parts.ensures
    ∙ ap (λ (b : Contents). joined b.blocks ++ parts) c.self.view_is
