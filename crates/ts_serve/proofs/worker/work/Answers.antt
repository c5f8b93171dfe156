-- Turn after turn, the desk has its shares and what it held, and memory lacked in none but the last one.
use Rattle.std.proofs.Common.{refl}
use Rattle.ts_slot.specs.Words.{tags_of}
use Rattle.ts_thread.specs.declared.TheConstants.{MOST_ENTERED}
use Rattle.ts_serve.proofs.Desks.{desk_stays}
use Rattle.ts_serve.proofs.Splits.{turned_on, turned_short, worked_on}
use Rattle.ts_serve.proofs.worker.work.Goals as goal

pub turns-init : goal.turns-init
turns-init g c = (record { ready = c.requires.works.ready; keeps = desk_stays c.args.desk }, (0, refl))

pub turns-preserved : goal.turns-preserved
turns-preserved g c = (
  worked_on c.args.service.now.shared.slots.now c.args.service.now.shared.queue.now c.args.desk c.turns.desk
      c.work_once.new.desk MOST_ENTERED c.turns.invariant.0 c.work_once.ensures.desk
      c.work_once.ensures.keeps,
  turned_on g.W.Slotted.fits g.W.World.asking g.W.World.answers g.W.World.called g.W.World.heard
      g.W.World.left (tags_of c.args.service.now.shared.slots.now) c.args.desk c.turns.desk
      c.work_once.new.desk c.turns.invariant.1 c.in-Ok.ensures.did,
)

pub returns-in_default-clause-worked : goal.returns-in_default-clause-worked
returns-in_default-clause-worked g c = worked_on c.args.service.now.shared.slots.now
    c.args.service.now.shared.queue.now c.args.desk c.turns.desk c.work_once.new.desk MOST_ENTERED
    c.turns.invariant.0 c.work_once.ensures.desk c.work_once.ensures.keeps

pub returns-in_default-clause-tells : goal.returns-in_default-clause-tells
returns-in_default-clause-tells g c = turned_short g.W.Slotted.fits g.W.World.asking g.W.World.answers
    g.W.World.called g.W.World.heard g.W.World.left (tags_of c.args.service.now.shared.slots.now) c.args.desk
    c.turns.desk c.work_once.new.desk c.turns.invariant.1 c.in_default.ensures.err
