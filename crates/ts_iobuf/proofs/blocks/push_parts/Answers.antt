-- What is shared of one block more leaves what stands behind it.
use Rattle.std.proofs.Common.{◌+◌, ◌-◌, ◌≤◌, ◌++◌, length, take, drop, sym, ap, ◌∙◌, arith, length-append, List, ℕ}
use Rattle.std.proofs.lemmas.List.{drop_all, take-append-le}
use Rattle.std.specs.VecDeque.{deque_len}
use Rattle.ts_iobuf.specs.Buffer.{one_block}
use Rattle.ts_iobuf.specs.Stored.{joined}
use Rattle.ts_iobuf.proofs.Cutting.{blocks-step, joined-more, full-more}
use Rattle.ts_iobuf.proofs.blocks.push_parts.Goals as goal

pub loop-index-preserved : goal.loop-index-preserved
loop-index-preserved c =
    let before = c.loop-index.blocks.items in
    let after = c.push.new.blocks.items in
    let part = c.in_ok-part.part in
    let is = c.in_ok-push.ensures.ok in
    let loop = c.loop-index.invariant in
    let long = c.loop-index.blocks.ok.0 in
    let behind = joined (drop (c.loop-index.index + 1) c.args.from.now.items) ++ c.args.front.now in
    record {
      bytes =
          ap (λ n. joined after ++ take (c.loop-index.left - n) (drop c.saturating_sub-ahead.result behind))
          c.len-left.ensures.value
          ∙ blocks-step c.args.from.now.items c.args.front.now c.index-block.result.now part
          (joined before) (joined after) _ c.loop-index.index c.loop-index.left
          c.loop-index.ahead c.saturating_sub-ahead.result
          (omega (arith, c.args.from.now.ok.0)) c.index-block.ensures
          c.in_ok-part.ensures
          (ap joined is ∙ joined-more before part)
          (c.saturating_sub-ahead.ensures ∙ ap (λ n. c.loop-index.ahead - n) c.len.ensures.value)
          loop.bytes;
      front = rw is (take-append-le (deque_len c.args.blocks.now) before (one_block part)
          (omega (arith, loop.long, long)) ∙ loop.front);
      long = omega (
        arith,
        loop.long,
        long,
        c.push.new.blocks.ok.0,
        ap length is,
        length-append before (one_block part),
      );
      full = λ h. rw is (full-more before part (loop.full h));
    }

pub returns-clause-ok : goal.returns-clause-ok
returns-clause-ok c =
    let from = c.args.from.now.items in
    let tail = c.in_ok-tail.tail in
    let before = c.loop-index.blocks.items in
    let past : length from ≤ c.loop-index.index = omega (arith, c.args.from.now.ok.0) in
    let part = λ (l : List ℕ). take c.loop-index.left (drop c.loop-index.ahead l) in
    ap joined c.in_ok-push-2.ensures.ok
    ∙ joined-more before tail
    ∙ ap (λ l. joined before ++ l) (c.in_ok-tail.ensures ∙ c.front_from.ensures)
    ∙ ap (λ bs. joined before ++ part (joined bs ++ c.args.front.now))
    (sym (drop_all c.loop-index.index from past))
    ∙ c.loop-index.invariant.bytes

pub returns-clause-front : goal.returns-clause-front
returns-clause-front c = rw c.in_ok-push-2.ensures.ok
    (take-append-le (deque_len c.args.blocks.now) c.loop-index.blocks.items (one_block c.in_ok-tail.tail)
    (omega (arith, c.loop-index.invariant.long, c.loop-index.blocks.ok.0)) ∙ c.loop-index.invariant.front)

pub returns-clause-full : goal.returns-clause-full
returns-clause-full c = λ h. rw c.in_ok-push-2.ensures.ok
    (full-more c.loop-index.blocks.items c.in_ok-tail.tail (c.loop-index.invariant.full h))
