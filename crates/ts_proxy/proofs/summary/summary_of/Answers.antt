-- The next block is counted, and at the end all of them are.
use Rattle.std.proofs.Common.{◌+◌, ◌∷◌, ap, arith, drop, length, refl, sym, ◌∙◌}
use Rattle.std.proofs.lemmas.List.{drop_more}
use Rattle.ts_record.specs.Sum.{sum_of}
use Rattle.ts_proxy.proofs.Summing.{summed_all, summed_more}
use Rattle.ts_proxy.proofs.summary.summary_of.Goals as goal

pub loop-block-preserved : goal.loop-block-preserved
loop-block-preserved c =
    let i = c.loop-block.block-index in
    summed_more c.args.blocks.now i c.loop-block.whole c.loop-block.body c.loop-block.sum _ _ _
    c.block-item.result
    (drop_more c.args.blocks.now i c.block-item.result c.loop-block-test.true ∙ ap
    (λ l. l ∷ drop (i + 1) c.args.blocks.now) (sym c.block-item.is))
    c.loop-block.invariant
    (ap (λ n. c.loop-block.whole + n) c.whole_once-whole.ensures.count)
    (omega (arith, c.whole_once-whole.ensures.count, c.whole_once-whole.ensures.most))
    (omega (arith, c.in-Some.ensures, ap length c.bytes-content.ensures))
    (c.sum_of-sum.ensures ∙ ap (sum_of c.loop-block.sum) c.bytes-content.ensures)

pub returns : goal.returns
returns c =
    summed_all c.args.blocks.now c.loop-block.block-index c.loop-block.whole c.loop-block.body
    c.loop-block.sum (length c.args.blocks.now) c.loop-block.invariant c.loop-block-test.false refl
