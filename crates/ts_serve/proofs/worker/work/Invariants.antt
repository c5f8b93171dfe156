-- Turn after turn, the desk has its shares and what it held, and memory lacked in none of the turns.
use Rattle.std.specs.Prelude.{true}
use Rattle.ts_slot.specs.Words.{tags_of}
use Rattle.ts_serve.specs.Working.{HasWorked, TellsWork}
use Rattle.ts_serve.proofs.worker.work.Given as goal

abbrev pub invariant-turns : goal.invariant-turns
invariant-turns g l =
    HasWorked l.service.shared.slots.now l.service.shared.queue.now l.initial.desk l.desk
    × TellsWork g.W.Slotted.fits g.W.World.asking g.W.World.answers g.W.World.called g.W.World.heard
    g.W.World.left (tags_of l.service.shared.slots.now) true l.initial.desk l.desk
