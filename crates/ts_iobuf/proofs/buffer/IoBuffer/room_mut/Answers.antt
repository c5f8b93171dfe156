-- Whatever is written to the room, the bytes stay.
use Rattle.std.proofs.Common.{refl, ap, ◌∙◌}
use Rattle.ts_iobuf.specs.Buffer.{Buffer}
use Rattle.ts_iobuf.specs.Stored.{joined}
use Rattle.ts_iobuf.proofs.Lent.{over-room}
use Rattle.ts_iobuf.proofs.buffer.IoBuffer.room_mut.Goals as goal

pub returns : goal.returns
returns c =
    let s = c.self.inside in (
      (
        refl,
        λ w. rw (← c.self.view_is) (
            ap (λ room. let b : Buffer = record {
              bytes = joined s.store.blocks;
              readers = s.slots.items;
              room = room;
              blocks = s.store.blocks;
              mark = s.mark;
            } in b)
            (over-room s.room w s.store.behind c.self.invariant.room)),
      ),
      record {
        writes_back = tt;
        room = c.behind_mut.ensures.bytes ∙ ap (λ (b : Buffer). b.room) c.self.view_is;
      },
    )
