use Rattle.ts_proxy.proofs.Summing.{SummedBut}
use Rattle.ts_proxy.proofs.summary.summary_of.Given as goal

-- the blocks that were passed are counted
abbrev pub invariant-loop-block : goal.invariant-loop-block
invariant-loop-block l = SummedBut l.blocks l.block-index l.whole l.body l.sum
