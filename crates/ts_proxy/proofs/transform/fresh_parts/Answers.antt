use Rattle.std.proofs.Common.{◌+◌, ◌∷◌, drop, ap, sym, ◌∙◌}
use Rattle.std.proofs.lemmas.List.{drop_more}
use Rattle.ts_transform.specs.Flow.{compose}
use Rattle.ts_config.specs.Bodies.{compose_lines}
use Rattle.ts_stock.specs.Stock.{still_writes}
use Rattle.ts_proxy.proofs.Composing.{composing-more}
use Rattle.ts_proxy.proofs.transform.fresh_parts.Goals as goal

pub loop-line-preserved : goal.loop-line-preserved
loop-line-preserved c = λ z.
    let i = c.loop-line.line-index in
    ap (λ ps. compose_lines (drop (i + 1) c.args.lines.now) (compose still_writes ps z))
    c.in_ok-push.ensures.items
    ∙ composing-more c.loop-line.parts.items c.in_ok-fresh.field-0 c.args.lines.now (drop i c.args.lines.now)
    (drop (i + 1) c.args.lines.now) c.line-item.result
    (drop_more c.args.lines.now i c.line-item.result c.loop-line-test.true ∙ ap
    (λ l. l ∷ drop (i + 1) c.args.lines.now) (sym c.line-item.is))
    c.in_ok-fresh.ensures.rest c.loop-line.invariant z
