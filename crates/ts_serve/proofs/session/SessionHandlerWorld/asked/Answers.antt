-- It is what holds of the one that lives there.
use Rattle.ts_serve.proofs.OwnType.{none_in, promises_in}
use Rattle.ts_serve.proofs.session.SessionHandlerWorld.asked.Goals as goal

pub returns-clause-promises : goal.returns-clause-promises
returns-clause-promises g c = promises_in g.C.Link g.O.Link c.self.inside.inside c.args.self.now c.self.view_is
    c.ask_world.new.world c.ask_world.ensures.promises

pub returns-clause-none : goal.returns-clause-none
returns-clause-none g c = none_in g.C.Link g.O.Link c.self.inside.inside c.args.self.now c.self.view_is
    c.args.cx.now c.ask_world.new.cx c.ask_world.ensures.none
