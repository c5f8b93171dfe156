-- A handler of the world is called as that of its kind, and lowers what its kind has left.
use Rattle.std.proofs.Common.{sym, subst}
use Rattle.ts_group.specs.Answers.{Falls}
use Rattle.ts_group.specs.Calls.{IsCalled}
use Rattle.ts_group.specs.Either.{EitherSound, either_left}
use Rattle.ts_group.proofs.either.EitherWorld.handle.Goals as goal

pub returns-in-One-clause-falls : goal.returns-in-One-clause-falls
returns-in-One-clause-falls g c = subst
    (λ w. (called : IsCalled (EitherSound g.A.World.sound g.B.World.sound w)
    c.args.cx.now c.args.role c.args.event)
    → Falls (either_left g.A.World.left g.B.World.left w called.before) 1
    (g.A.World.left c.handle.new.self c.handle.new.cx.log.state))
    (sym c.in-One.is) c.handle.ensures.falls

pub returns-in-Other-clause-falls : goal.returns-in-Other-clause-falls
returns-in-Other-clause-falls g c = subst
    (λ w. (called : IsCalled (EitherSound g.A.World.sound g.B.World.sound w)
    c.args.cx.now c.args.role c.args.event)
    → Falls (either_left g.A.World.left g.B.World.left w called.before) 1
    (g.B.World.left c.handle-in-Other.new.self c.handle-in-Other.new.cx.log.state))
    (sym c.in-Other.is) c.handle-in-Other.ensures.falls
