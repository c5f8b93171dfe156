use Rattle.ts_record.proofs.Counting.{Counted}
use Rattle.ts_record.proofs.piece.count_digits.Given as goal

abbrev pub invariant-loop-count : goal.invariant-loop-count
invariant-loop-count l = Counted l.fn.limit l.bytes l.value l.count
