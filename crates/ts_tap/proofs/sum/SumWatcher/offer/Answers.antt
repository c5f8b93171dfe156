-- All of the bytes are taken, and of them what is left to count is counted.
use Rattle.std.proofs.Common.{◌+◌, ap, refl, ◌∙◌, arith}
use Rattle.ts_record.specs.Sum.{sum_of}
use Rattle.ts_tap.specs.declared.sum.Sum.{Sum}
use Rattle.ts_tap.proofs.Summing.{offers_all}
use Rattle.ts_tap.proofs.sum.SumWatcher.offer.Goals as goal

pub returns-clause-offers : goal.returns-clause-offers
returns-clause-offers c =
    let s = c.args.self.now in
    let counted = c.min-counted.result in
    let t : Sum = record { most = s.most; count = s.count + counted; sum = c.sum_of-self.result } in
    offers_all s t c.args.bytes.now counted
    (omega (arith, c.min-counted.ensures, c.saturating_sub-left.ensures)) refl refl
    (c.sum_of-self.ensures ∙ ap (sum_of s.sum) c.split_at.ensures.front)
