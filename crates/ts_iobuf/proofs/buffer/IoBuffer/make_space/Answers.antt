-- The room is all that is free, and the blocks stay.
use Rattle.std.proofs.Common.{length, sym, subst, arith}
use Rattle.ts_iobuf.specs.Places.{StandsWithin}
use Rattle.ts_iobuf.specs.Stored.{joined}
use Rattle.ts_iobuf.proofs.buffer.IoBuffer.make_space.Goals as goal

pub invariant_of-self-2 : goal.invariant_of-self-2
invariant_of-self-2 c = record {
  room = omega (arith, c.in_ok-self-inside.ensures.ok.1);
  places = subst (λ bs. StandsWithin (length (joined bs)) c.self.inside.slots.items)
      (sym c.make_room.ensures.blocks) c.self.invariant.places;
}
