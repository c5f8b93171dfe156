-- Who was missed stands among those that are ready.
use Rattle.std.proofs.Common.{List, ℕ, sym, subst}
use Rattle.ts_slot.specs.Words.{tags_of}
use Rattle.ts_serve.specs.Ready.{AreLeft}
use Rattle.ts_serve.proofs.ready.rouse_ready.Goals as goal

pub returns-clause-left : goal.returns-clause-left
returns-clause-left g c =
    subst (λ missed. AreLeft g.W.Slotted.fits g.W.Tenant.keeps g.W.World.sound g.P.Slotted.fits g.P.World.sound
    g.P.World.is_first (tags_of c.args.shared.now.slots.now) c.args.row.now c.args.moment
    c.args.ready.now.names.items missed.items c.rouse_named.new.desk) (sym c.swap.ensures.x_after)
    (subst (λ (names : List ℕ). AreLeft g.W.Slotted.fits g.W.Tenant.keeps g.W.World.sound g.P.Slotted.fits
    g.P.World.sound g.P.World.is_first (tags_of c.args.shared.now.slots.now) c.args.row.now c.args.moment names
    c.rouse_named.new.missed.items c.rouse_named.new.desk) c.as_slice-names.ensures.value
    c.in_ok-rouse_named.ensures.left)
