-- The part of the other's bytes begins at the place that the reader and the offset tell.
use Rattle.std.proofs.Common.{◌+◌, ◌-◌, ◌++◌, take, drop, min, refl, ap, ◌∙◌}
use Rattle.ts_iobuf.specs.Buffer.{Buffer, part_of}
use Rattle.ts_iobuf.specs.Places.{bytes_from, place_in}
use Rattle.ts_iobuf.specs.Stored.{joined}
use Rattle.ts_iobuf.specs.View.{seen, shown}
use Rattle.ts_iobuf.proofs.Cutting.{drop-within}
use Rattle.ts_iobuf.proofs.Growing.{grows}
use Rattle.ts_iobuf.proofs.buffer.IoBuffer.copy_from.Goals as goal

pub returns-clause-grows : goal.returns-clause-grows
returns-clause-grows c =
    let s = c.self.inside in
    let f = c.from.inside in
    let bytes = joined f.store.blocks in
    let place = c.in-Some.place in
    let part_is =
    ap (λ m. take c.args.most (drop (place + m) bytes))
    (c.min.ensures ∙ ap (λ n. min c.args.offset (n - place)) c.len.ensures)
    ∙ ap (take c.args.most) (drop-within place c.args.offset bytes)
    ∙ ap (λ o. take c.args.most (drop c.args.offset (bytes_from o bytes)))
    (c.in-Some.ensures ∙ ap (λ ss. place_in ss c.args.reader) c.as_slice.ensures.value)
    ∙ ap (λ (b : Buffer). part_of b c.args.reader c.args.offset c.args.most) c.from.view_is in
    rw (← c.self.view_is)
    (grows (seen s) (shown c.copy_from.new.self 0 s.slots.items s.mark)
    (part_of c.args.from.now c.args.reader c.args.offset c.args.most)
    (c.in_ok-count.ensures.ok ∙ ap (λ l. joined s.store.blocks ++ l) part_is) refl refl
    c.self.invariant.places)
