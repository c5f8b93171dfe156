-- The next byte goes into the sum.
use Rattle.std.proofs.Common.{◌+◌, drop, ap, sym, ◌∙◌}
use Rattle.std.proofs.lemmas.List.{drop_more}
use Rattle.ts_record.specs.Sum.{sum_of}
use Rattle.ts_record.proofs.sum.sum_of.Goals as goal

pub loop-byte-preserved : goal.loop-byte-preserved
loop-byte-preserved c =
    let i = c.loop-byte.byte-index in
    ap (λ s. sum_of s (drop (i + 1) c.args.bytes.now)) c.sum_with-sum.ensures
    ∙ sym (ap (sum_of c.loop-byte.sum) (drop_more c.args.bytes.now i 0 c.loop-byte-test.true))
    ∙ c.loop-byte.invariant
