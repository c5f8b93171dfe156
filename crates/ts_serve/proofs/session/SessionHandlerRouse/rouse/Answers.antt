-- It is what holds of the one that lives there.
use Rattle.ts_group.specs.declared.world.TheConstants.{MOST_SET}
use Rattle.ts_serve.proofs.OwnType.{few_in, promises_in}
use Rattle.ts_serve.proofs.session.SessionHandlerRouse.rouse.Goals as goal

pub returns-clause-promises : goal.returns-clause-promises
returns-clause-promises g c = promises_in g.C.Link g.O.Link c.self.inside.inside c.args.self.now c.self.view_is
    c.rouse_world.new.world c.rouse_world.ensures.promises

pub returns-clause-few : goal.returns-clause-few
returns-clause-few g c = few_in g.C.Link g.O.Link c.self.inside.inside c.args.self.now c.self.view_is MOST_SET
    c.args.cx.now c.rouse_world.new.cx c.rouse_world.ensures.few
