-- The block of a request that was sent is that of the head that was found: it is passed on, or refused.
use Rattle.std.proofs.Common.{subst}
use Rattle.ts_block.specs.Finding.{FindsFinal}
use Rattle.ts_block.proofs.Saying.{says_refused_head, says_passed_on}
use Rattle.ts_block.proofs.block.answered.Goals as goal

pub returns-then-is_good : goal.returns-then-is_good
returns-then-is_good c =
    says_passed_on c.args.setup.now c.args.request c.args.asked.now c.args.origin.now c.in-Some.head
    c.in-Some.used c.split_at.result.1.now c.in_ok-block-2.block
    (subst (FindsFinal c.args.origin.now) c.in-Some.is c.in_ok-head.ensures) c.split_at.ensures.back
    (c.is_good.ensures.good c.if-is_good.true) c.in_ok-block-2.ensures

pub returns : goal.returns
returns c =
    says_refused_head c.args.setup.now c.args.request c.args.asked.now c.args.origin.now c.in-Some.head
    c.in-Some.used c.in_ok-block-3.block
    (subst (FindsFinal c.args.origin.now) c.in-Some.is c.in_ok-head.ensures)
    (c.is_good.ensures.status c.if-is_good.false) c.in_ok-block-3.ensures
