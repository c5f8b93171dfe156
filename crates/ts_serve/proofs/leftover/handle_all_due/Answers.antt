-- Group after group, all fit the tags that they fitted, and were made as they were.
use Rattle.std.proofs.Common.{refl, ◌∙◌}
use Rattle.ts_serve.proofs.Leftovers.{goes_on}
use Rattle.ts_serve.proofs.leftover.handle_all_due.Goals as goal

pub groups-init : goal.groups-init
groups-init g c = (λ tags fit. fit, refl, refl)

pub handle_in_place-requires-clause-fits : goal.handle_in_place-requires-clause-fits
handle_in_place-requires-clause-fits g c =
    goes_on g.W.Slotted.fits g.W.Tenant.keeps g.W.World.sound g.P.Slotted.fits g.P.World.sound
    g.P.World.only_asked g.P.World.is_first g.W.World.may_ask g.W.World.right g.W.World.answers
    g.P.World.may_ask g.P.World.right g.P.World.answers c.args.groups.now c.groups.groups c.groups.invariant.0 c.requires.fits

pub returns-in_err-handle_in_place-clause-fit : goal.returns-in_err-handle_in_place-clause-fit
returns-in_err-handle_in_place-clause-fit g c =
    λ tags fit. c.handle_in_place.ensures.fit tags (c.groups.invariant.0 tags fit)

pub groups-preserved : goal.groups-preserved
groups-preserved g c = (
  λ tags fit. c.handle_in_place.ensures.fit tags (c.groups.invariant.0 tags fit),
  c.handle_in_place.ensures.made ∙ c.groups.invariant.1,
  c.handle_in_place.ensures.count ∙ c.groups.invariant.2,
)
