-- What is copied of one block more leaves what stands behind it.
use Rattle.std.proofs.Common.{◌-◌, length, take, drop, ap, ◌∙◌, arith, length-take, length-append}
use Rattle.ts_iobuf.proofs.Cutting.{blocks-step}
use Rattle.ts_iobuf.proofs.blocks.append_blocks.Goals as goal

pub loop-index-preserved : goal.loop-index-preserved
loop-index-preserved c =
    let out = c.loop-index.out.items in
    let left = c.loop-index.left in
    let ahead = c.loop-index.ahead in
    let part = c.front_from-part.result.now in
    let block = c.as_slice-block.ensures in
    record {
      room = omega (
        arith,
        c.append.new.out.ok.0,
        c.loop-index.out.ok.0,
        ap length c.append.ensures.items,
        length-append out part,
        ap length c.front_from-part.ensures,
        length-take left (drop ahead c.as_slice-block.result.now),
        c.append.ensures.room,
        c.loop-index.invariant.room,
      );
      bytes = blocks-step c.args.blocks.now.items c.args.front.now c.index.result.now part out
          c.append.new.out.items _ c.loop-index.index left ahead c.saturating_sub-ahead.result
          (omega (arith, c.args.blocks.now.ok.0)) c.index.ensures
          (c.front_from-part.ensures ∙ ap (λ b. take left (drop ahead b)) block)
          c.append.ensures.items
          (c.saturating_sub-ahead.ensures ∙ ap (λ b. ahead - length b) block)
          c.loop-index.invariant.bytes;
    }
