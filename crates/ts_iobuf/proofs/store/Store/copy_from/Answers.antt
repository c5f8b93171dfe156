-- What begins behind the other's full blocks stands in its block in filling.
use Rattle.std.proofs.Common.{◌-◌, ◌++◌, take, drop, sym, ap, ◌∙◌, arith, append-nil}
use Rattle.ts_iobuf.specs.Stored.{Contents, joined, stored}
use Rattle.ts_iobuf.proofs.Storing.{held-past}
use Rattle.ts_iobuf.proofs.store.Store.copy_from.Goals as goal

pub returns-clause-ok : goal.returns-clause-ok
returns-clause-ok c =
    let f = c.from.inside in
    let part = c.front_from-part.result.now in
    let front = stored f.start f.filled f.filling.items in
    c.in_ok-write_parts.ensures.ok
    ∙ ap (λ l. joined c.args.self.now.blocks ++ l) (
    append-nil part
    ∙ c.front_from-part.ensures
    ∙ ap (λ l. take c.args.most (drop (c.args.at - f.full) l))
    (c.bytes_between-front.ensures ∙ ap (stored f.start f.filled) c.as_slice.ensures.value)
    ∙ ap (λ n. take c.args.most (drop (c.args.at - n) front)) c.from.invariant.count
    ∙ ap (take c.args.most) (sym (held-past f.blocks.items f.start f.filled c.args.at f.filling.items
    (omega (arith, c.from.invariant.count, c.if-at-from.false))))
    ∙ ap (λ (b : Contents). take c.args.most (drop c.args.at (joined b.blocks))) c.from.view_is)
