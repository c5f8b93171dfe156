-- The search goes on behind an interim head, and ends at one that is not, or where there is none.
use Rattle.std.proofs.Common.{sym}
use Rattle.ts_block.proofs.Searching.{passes, finds, lacks}
use Rattle.ts_block.proofs.heads.find_final.Goals as goal

pub loop-head-preserved : goal.loop-head-preserved
loop-head-preserved c =
    passes c.args.bytes.now c.loop-head.at c.in-Some.used c.in-Some.head c.in_ok-head.field-0
    c.loop-head.invariant.0 c.loop-head.invariant.1 c.in_ok-head.ensures c.in-Some.is
    (sym c.if-is_interim.ensures)

pub returns-else-is_interim : goal.returns-else-is_interim
returns-else-is_interim c =
    finds c.args.bytes.now c.loop-head.at c.in-Some.used c.in-Some.head c.in_ok-head.field-0
    c.loop-head.invariant.0 c.loop-head.invariant.1 c.in_ok-head.ensures c.in-Some.is
    (sym c.if-is_interim.ensures)

pub returns : goal.returns
returns c = lacks c.args.bytes.now c.loop-head.at c.in_ok-head.field-0 c.loop-head.invariant.0
    c.in_ok-head.ensures c.in_default.is
