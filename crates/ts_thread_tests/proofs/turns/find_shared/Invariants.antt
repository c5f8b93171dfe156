use Rattle.std.proofs.Common.{◌≡◌}
use Rattle.ts_toys.specs.declared.peer.TheConstants.{ASKED}
use Rattle.ts_queue.specs.Passes.{IsPassOf}
use Rattle.ts_slot.specs.Words.{tags_of}
use Rattle.ts_thread_tests.specs.Peers.{row_tags}
use Rattle.ts_thread_tests.proofs.turns.find_shared.Given as goal

abbrev pub invariant-turns : goal.invariant-turns
invariant-turns g l = (tags_of l.thread.slots.now ≡ row_tags ASKED) × IsPassOf l.queue l.other
