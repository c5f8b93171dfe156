use Rattle.ts_slot.specs.Words.{tags_of, view}
use Rattle.ts_thread.specs.Desks.{IsDeskOf}
use Rattle.ts_serve.specs.Balance.{IsSameRow}
use Rattle.ts_serve.specs.Acceptor.{KeepsDeskSome}
use Rattle.ts_serve.specs.Starting.{RestStays, WereStartedAt}
use Rattle.ts_serve.proofs.Tried.{TriedFirst}
use Rattle.ts_serve.proofs.start.start_handlers.Given as goal

abbrev pub invariant-places : goal.invariant-places
invariant-places g l = IsDeskOf l.shared.slots.now l.shared.queue.now l.desk × KeepsDeskSome l.initial.desk l.desk
    × IsSameRow l.initial.row.items l.row.items × RestStays l.k l.initial.row.items l.row.items
    × WereStartedAt g.W.Slotted.fits g.W.Tenant.keeps g.W.World.begun g.W.World.sound g.P.Slotted.fits
    g.P.World.begun g.P.World.sound g.P.World.is_first (tags_of l.shared.slots.now) l.k l.initial.row.items l.row.items
    l.desk
    × TriedFirst l.k l.row.items (view l.initial.desk.seat) (view l.desk.seat)
