-- It is what holds of the one that lives there.
use Rattle.ts_group.specs.declared.world.TheConstants.{MOST_SET}
use Rattle.ts_serve.proofs.OwnType.{asking_in, few_in, promises_in}
use Rattle.ts_serve.proofs.session.SessionHandlerWorld.told.Goals as goal

pub tell_world-requires-clause-asking : goal.tell_world-requires-clause-asking
tell_world-requires-clause-asking g c = asking_in g.C.Link g.O.Link c.self.inside.inside c.args.self.now c.self.view_is
    g.P.Transform c.args.cx.now c.args.role c.args.asked c.requires.asking

pub returns-clause-promises : goal.returns-clause-promises
returns-clause-promises g c = promises_in g.C.Link g.O.Link c.self.inside.inside c.args.self.now c.self.view_is
    c.tell_world.new.world c.tell_world.ensures.promises

pub returns-clause-few : goal.returns-clause-few
returns-clause-few g c = few_in g.C.Link g.O.Link c.self.inside.inside c.args.self.now c.self.view_is MOST_SET
    c.args.cx.now c.tell_world.new.cx c.tell_world.ensures.few
