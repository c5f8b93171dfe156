-- The block of a response that is passed on is that of its body: it has ended, a line finishes early on it, or it
-- is bad, or cut.
use Rattle.ts_block.proofs.Saying.{says_bad, says_cut, says_early, says_ended}
use Rattle.ts_block.proofs.block.relayed.Goals as goal

pub returns-then-is_over : goal.returns-then-is_over
returns-then-is_over c =
    says_ended c.args.setup.now c.args.request c.args.asked.now c.args.head.now c.args.rest.now
    c.in_ok-body.body.items c.framing_between-framing.result c.in_ok-body.state
    c.in_ok-block.block c.framing_between-framing.ensures c.in_ok-body.ensures
    (c.is_over.ensures.over c.if-is_over.true) c.in_ok-block.ensures

pub returns-then-early : goal.returns-then-early
returns-then-early c =
    says_early c.args.setup.now c.args.request c.args.asked.now c.args.head.now c.args.rest.now
    c.in_ok-body.body.items c.framing_between-framing.result c.in_ok-body.state
    c.in_ok-block-2.block c.framing_between-framing.ensures c.in_ok-body.ensures
    c.deref.result.now c.deref.ensures.value c.in_ok-early.early c.in_ok-early.ensures c.if-early.true c.in_ok-block-2.ensures

pub returns-then-is_bad : goal.returns-then-is_bad
returns-then-is_bad c =
    says_bad c.args.setup.now c.args.request c.args.asked.now c.args.head.now c.args.rest.now
    c.in_ok-body.body.items c.framing_between-framing.result c.in_ok-body.state
    c.in_ok-block-3.block c.framing_between-framing.ensures c.in_ok-body.ensures
    (c.is_bad.ensures.bad c.if-is_bad.true) c.deref.result.now c.deref.ensures.value c.in_ok-early.early c.in_ok-early.ensures c.if-early.false
    c.in_ok-block-3.ensures

pub returns : goal.returns
returns c =
    says_cut c.args.setup.now c.args.request c.args.asked.now c.args.head.now c.args.rest.now
    c.in_ok-body.body.items c.framing_between-framing.result c.in_ok-body.state
    c.in_ok-block-4.block c.framing_between-framing.ensures c.in_ok-body.ensures
    (c.is_over.ensures.cut c.if-is_over.false (c.is_bad.ensures.good c.if-is_bad.false))
    c.deref.result.now c.deref.ensures.value c.in_ok-early.early c.in_ok-early.ensures c.if-early.false c.in_ok-block-4.ensures
