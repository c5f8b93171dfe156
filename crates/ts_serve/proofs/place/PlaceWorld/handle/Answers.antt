-- A handler of whoever lives there is called, and lowers what it has left.
use Rattle.std.proofs.Common.{sym, subst}
use Rattle.ts_group.specs.Answers.{Falls}
use Rattle.ts_group.specs.Calls.{IsCalled}
use Rattle.ts_serve.specs.Places.{PlaceSound, place_left}
use Rattle.ts_serve.proofs.place.PlaceWorld.handle.Goals as goal

pub returns-clause-falls : goal.returns-clause-falls
returns-clause-falls g c = subst
    (λ p. (called : IsCalled (PlaceSound g.W.World.sound p) c.args.cx.now c.args.role c.args.event)
    → Falls (place_left g.W.World.left p called.before) 1
    (g.W.World.left c.handle.new.self c.handle.new.cx.log.state))
    (sym c.in-Tenant.is) c.handle.ensures.falls
