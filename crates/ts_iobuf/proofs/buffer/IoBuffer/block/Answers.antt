-- The first of the blocks stands at the front of what is readable.
use Rattle.std.proofs.Common.{ap, ◌∙◌, slice_get}
use Rattle.ts_iobuf.specs.Buffer.{Buffer, blocks_after, readable}
use Rattle.ts_iobuf.specs.Places.{bytes_from, place_in}
use Rattle.ts_iobuf.specs.Stored.{joined}
use Rattle.ts_iobuf.proofs.Cutting.{first-block}
use Rattle.ts_iobuf.proofs.buffer.IoBuffer.block.Goals as goal

pub returns-clause-first : goal.returns-clause-first
returns-clause-first c = λ e.
    let s = c.self.inside in
    let place = c.in-Some.place in
    let blocks = blocks_after place s.store.blocks in
    first-block c.block.result blocks (readable c.args.self.now c.args.reader)
    (c.block.ensures.block ∙ ap (slice_get blocks) e)
    (c.block.ensures.joined
    ∙ ap (λ o. bytes_from o (joined s.store.blocks))
    (c.in-Some.ensures ∙ ap (λ ss. place_in ss c.args.reader) c.as_slice.ensures.value)
    ∙ ap (λ (b : Buffer). readable b c.args.reader) c.self.view_is)
    c.block.ensures.full
