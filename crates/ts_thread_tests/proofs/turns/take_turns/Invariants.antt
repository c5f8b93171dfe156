use Rattle.std.proofs.Common.{◌≡◌}
use Rattle.ts_toys.specs.declared.peer.TheConstants.{ASKED}
use Rattle.ts_slot.specs.Words.{tags_of}
use Rattle.ts_thread_tests.specs.Peers.{row_tags}
use Rattle.ts_thread_tests.proofs.turns.take_turns.Given as goal

abbrev pub invariant-moments : goal.invariant-moments
invariant-moments g l = tags_of l.thread.slots.now ≡ row_tags ASKED
