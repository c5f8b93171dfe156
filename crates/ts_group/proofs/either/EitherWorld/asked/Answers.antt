-- The world is asked as that of its kind, which has no more left than before.
use Rattle.std.proofs.Common.{sym, subst}
use Rattle.ts_group.specs.Answers.{Falls}
use Rattle.ts_group.specs.Calls.{IsAsked}
use Rattle.ts_group.specs.Either.{EitherSound, either_left}
use Rattle.ts_group.proofs.either.EitherWorld.asked.Goals as goal

pub returns-in-One-clause-falls : goal.returns-in-One-clause-falls
returns-in-One-clause-falls g c = subst
    (λ w. (asked : IsAsked (EitherSound g.A.World.sound g.B.World.sound w) c.args.cx.now)
    → Falls (either_left g.A.World.left g.B.World.left w asked.before) 0
    (g.A.World.left c.asked.new.self c.asked.new.cx.log.state))
    (sym c.in-One.is) c.asked.ensures.falls

pub returns-in-Other-clause-falls : goal.returns-in-Other-clause-falls
returns-in-Other-clause-falls g c = subst
    (λ w. (asked : IsAsked (EitherSound g.A.World.sound g.B.World.sound w) c.args.cx.now)
    → Falls (either_left g.A.World.left g.B.World.left w asked.before) 0
    (g.B.World.left c.asked-in-Other.new.self c.asked-in-Other.new.cx.log.state))
    (sym c.in-Other.is) c.asked-in-Other.ensures.falls
