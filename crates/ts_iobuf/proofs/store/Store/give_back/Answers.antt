-- A store that holds no bytes has no blocks, as the new one.
use Rattle.std.proofs.Common.{sym, ap, subst, ◌∙◌, []}
use Rattle.ts_iobuf.specs.Stored.{Contents, AreFull, stored}
use Rattle.ts_iobuf.proofs.Cutting.{full-more, no-blocks}
use Rattle.ts_iobuf.proofs.store.Store.give_back.Goals as goal

pub returns : goal.returns
returns c =
    let s = c.self.inside in
    let blocks = c.args.self.now.blocks in
    let full : AreFull blocks = subst (λ (b : Contents). AreFull b.blocks) c.self.view_is
    (full-more s.blocks.items (stored s.start s.filled s.filling.items) c.self.invariant.blocks) in
    c.drop.view_is ∙ c.new.ensures
    ∙ ap (λ bs. let b : Contents = record { blocks = bs; behind = [] } in b)
    (sym (no-blocks blocks full c.requires))
