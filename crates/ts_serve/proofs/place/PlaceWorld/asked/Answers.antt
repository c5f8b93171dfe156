-- Whoever lives there is asked, and has no more left than before.
use Rattle.std.proofs.Common.{sym, subst}
use Rattle.ts_group.specs.Answers.{Falls}
use Rattle.ts_group.specs.Calls.{IsAsked}
use Rattle.ts_serve.specs.Places.{PlaceSound, place_left}
use Rattle.ts_serve.proofs.place.PlaceWorld.asked.Goals as goal

pub returns-in-Tenant-clause-falls : goal.returns-in-Tenant-clause-falls
returns-in-Tenant-clause-falls g c = subst
    (λ p. (asked : IsAsked (PlaceSound g.W.World.sound p) c.args.cx.now)
    → Falls (place_left g.W.World.left p asked.before) 0
    (g.W.World.left c.asked.new.self c.asked.new.cx.log.state))
    (sym c.in-Tenant.is) c.asked.ensures.falls
