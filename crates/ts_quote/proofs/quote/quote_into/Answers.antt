-- One byte further on, what was written and what is still to be written are what was to be written of the
-- whole piece.
use Rattle.std.proofs.Common.{◌+◌, ◌==◌, ◌++◌, get_or, drop, sym, ap, ◌∙◌}
use Rattle.ts_quote.specs.Quoting.{marked}
use Rattle.ts_quote.proofs.Steps.{quoted_step}
use Rattle.ts_quote.proofs.quote.quote_into.Goals as goal

pub loop-i-preserved : goal.loop-i-preserved
loop-i-preserved c = λ z.
    let mark = c.args.mark.now in
    let piece = c.args.piece.now in
    let i = c.loop-i.i in
    c.loop-i.invariant z
    ∙ quoted_step mark c.loop-i.text.items piece z c.loop-i.next i c.loop-i-test.true
    ∙ ap (λ t. t ++ marked mark (get_or piece i 0 == 10) (drop (i + 1) piece ++ z))
    (sym c.in_ok-write_byte.ensures)
