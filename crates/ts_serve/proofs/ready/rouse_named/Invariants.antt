-- Name after name, the desk goes on, and each that was tried is settled, or left.
use Rattle.ts_slot.specs.Words.{tags_of}
use Rattle.ts_thread.specs.Desks.{IsDeskOf}
use Rattle.ts_serve.specs.Acceptor.{KeepsDeskSome}
use Rattle.ts_serve.specs.Ready.{FirstAreLeft}
use Rattle.ts_serve.proofs.ready.rouse_named.Given as goal

abbrev pub invariant-tries : goal.invariant-tries
invariant-tries g l =
    IsDeskOf l.shared.slots.now l.shared.queue.now l.desk × KeepsDeskSome l.initial.desk l.desk
    × FirstAreLeft g.W.Slotted.fits g.W.Tenant.keeps g.W.World.sound g.P.Slotted.fits g.P.World.sound
    g.P.World.is_first (tags_of l.shared.slots.now) l.row l.moment l.place l.names l.missed.items l.desk
