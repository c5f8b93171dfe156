-- The group of the next handler fits the place, and so does that of an empty one.
use Rattle.std.proofs.Common.{subst}
use Rattle.ts_group.specs.Context.{IsFresh}
use Rattle.ts_serve.specs.Tenants.{MayLiveAt}
use Rattle.std.specs.Prelude.{IfSome}
use Rattle.ts_slot.specs.Words.{tags_of, view}
use Rattle.ts_serve.proofs.Follows.{empty_left}
use Rattle.ts_serve.proofs.Tenants.{handler_fits, nobody_fits}
use Rattle.ts_serve.proofs.accept.put_next.Goals as goal

pub put_tenant-requires-clause-fits : goal.put_tenant-requires-clause-fits
put_tenant-requires-clause-fits g c =
    nobody_fits g.W.Slotted.fits g.W.Tenant.keeps g.W.World.sound g.P.Slotted.fits g.P.World.sound
    g.P.World.only_asked g.P.World.is_first (tags_of c.args.slots.now) c.args.turn.group c.args.turn.number
    c.args.spare c.requires.spare.1 c.requires.spare.0

pub put_tenant-requires-in-Ok-clause-fits : goal.put_tenant-requires-in-Ok-clause-fits
put_tenant-requires-in-Ok-clause-fits g c =
    handler_fits g.W.Slotted.fits g.W.Tenant.keeps g.W.World.sound g.P.Slotted.fits g.P.World.sound
    g.P.World.only_asked g.P.World.is_first (tags_of c.args.slots.now) c.args.turn.group c.args.turn.number
    c.in-Some.handler c.in-Ok.group
    (subst (λ next. IfSome next (MayLiveAt g.W.Slotted.fits g.W.Tenant.keeps g.W.World.sound
    (tags_of c.args.slots.now) c.args.turn.group)) c.in-Some.is c.requires.lives) c.in-Ok.ensures.world
    (subst (λ n. IsFresh n c.in-Ok.group.cx) c.number.ensures c.in-Ok.ensures.fresh)

pub put_tenant-requires-in-Err-clause-fits : goal.put_tenant-requires-in-Err-clause-fits
put_tenant-requires-in-Err-clause-fits g c =
    nobody_fits g.W.Slotted.fits g.W.Tenant.keeps g.W.World.sound g.P.Slotted.fits g.P.World.sound
    g.P.World.only_asked g.P.World.is_first (tags_of c.args.slots.now) c.args.turn.group c.args.turn.number
    c.args.spare c.requires.spare.1 c.requires.spare.0

pub returns-in_default-clause-left : goal.returns-in_default-clause-left
returns-in_default-clause-left g c = λ terms lives. empty_left g.W.Slotted.fits g.W.Tenant.keeps g.P.Slotted.fits terms
    (view c.put_tenant.new.seat).known c.args.turn.group c.args.turn.number c.args.spare c.requires.spare.0
    c.put_tenant.ensures.knows

pub returns-in-Err-clause-left : goal.returns-in-Err-clause-left
returns-in-Err-clause-left g c = λ terms lives. empty_left g.W.Slotted.fits g.W.Tenant.keeps g.P.Slotted.fits terms
    (view c.put_tenant-in-Err.new.seat).known c.args.turn.group c.args.turn.number c.args.spare c.requires.spare.0
    c.put_tenant-in-Err.ensures.knows
