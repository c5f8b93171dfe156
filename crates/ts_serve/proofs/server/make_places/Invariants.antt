-- So many places were made, all of the terms of the setting.
use Rattle.std.specs.Prelude.{◌≡◌, replicate}
use Rattle.ts_group.specs.declared.either.EitherTag.TheVariants.{One}
use Rattle.ts_serve.specs.Opening.{AreNewGroups}
use Rattle.ts_serve.proofs.server.make_places.Given as goal

abbrev pub invariant-places : goal.invariant-places
invariant-places g l =
    ((terms : g.row.W-Terms.Denot) → g.W.Handler.are_terms l.setting terms
    → l.tags.items ≡ replicate l._place (One terms))
    × AreNewGroups g.W.Slotted.fits g.W.Tenant.keeps g.W.World.sound g.P.Slotted.fits g.P.World.sound
    g.P.World.only_asked g.P.World.is_first l.tags.items l.groups.items
