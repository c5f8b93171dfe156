-- The worlds that are left are to come behind the groups that are there.
use Rattle.std.specs.Prelude.{◌≡◌, ◌++◌, All, length, map}
use Rattle.ts_group.specs.declared.either.EitherTag.TheVariants.{Other}
use Rattle.ts_serve.specs.Opening.{AreNewGroups}
use Rattle.ts_serve.specs.Servers.{StandsBeside}
use Rattle.ts_serve.proofs.server.add_others.Given as goal

abbrev pub invariant-others : goal.invariant-others
invariant-others g l =
    (l.tags.items ++ map (λ b. Other b.tag) l.rest.items
    ≡ l.fn.tags.items ++ map (λ b. Other b.tag) l.fn.others.items)
    × All (StandsBeside g.P.Slotted.fits g.P.World.sound g.P.World.only_asked) l.rest.items
    × AreNewGroups g.W.Slotted.fits g.W.Tenant.keeps g.W.World.sound g.P.Slotted.fits g.P.World.sound
    g.P.World.only_asked g.P.World.is_first l.tags.items l.groups.items

abbrev pub decreases-others : goal.decreases-others
decreases-others g l = length l.rest.items
