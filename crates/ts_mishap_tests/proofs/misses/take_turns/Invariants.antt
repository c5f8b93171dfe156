-- The thread takes turns on the same slots, with the same share.
use Rattle.std.proofs.Common.{◌≡◌}
use Rattle.ts_slot.specs.Words.{tags_of, view}
use Rattle.ts_mishap_tests.proofs.misses.take_turns.Given as goal

abbrev pub invariant-turns : goal.invariant-turns
invariant-turns g l =
    (l.thread.slots ≡ l.fn.thread.slots)
    × (tags_of l.thread.slots.now ≡ tags_of l.fn.thread.slots.now)
    × ((view l.thread.desk.seat).share ≡ (view l.fn.thread.desk.seat).share)
