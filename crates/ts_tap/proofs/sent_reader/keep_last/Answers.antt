-- The last bytes of a text that goes on, by how many these are.
use Rattle.std.proofs.Common.{◌++◌, sym, ap, subst, ◌∙◌, arith}
use Rattle.ts_tap.specs.Sending.{IsTail}
use Rattle.ts_tap.proofs.Tails.{keeps_long, keeps_short}
use Rattle.ts_tap.proofs.sent_reader.keep_last.Goals as goal

pub returns-then-bytes-ge-TAIL-clause-tail : goal.returns-then-bytes-ge-TAIL-clause-tail
returns-then-bytes-ge-TAIL-clause-tail c text tail =
    let bytes = c.args.bytes.now in
    let is = c.append.ensures.items
    ∙ (λ i. c.clear.ensures.items i ++ c.split_at.ensures.back i) in
    subst (IsTail (text ++ bytes)) (sym is) (keeps_long text bytes c.if-bytes-ge-TAIL.true)

pub returns-else-bytes-ge-TAIL-clause-tail : goal.returns-else-bytes-ge-TAIL-clause-tail
returns-else-bytes-ge-TAIL-clause-tail c text tail =
    let bytes = c.args.bytes.now in
    let over = c.saturating_sub-over.result in
    let is = c.append-else-bytes-ge-TAIL.ensures.items ∙ ap (λ l. l ++ bytes) c.remove_front.ensures.items in
    subst (IsTail (text ++ bytes)) (sym is)
    (keeps_short text c.args.tail.now.items bytes tail c.if-bytes-ge-TAIL.false over
    (omega (arith, c.saturating_sub-over.ensures, c.len.ensures, c.args.tail.now.ok.0)))
