-- It is what holds of the one that lives there.
use Rattle.ts_group.specs.declared.world.TheConstants.{MOST_SET}
use Rattle.ts_serve.proofs.OwnType.{called_in, few_in, promises_in}
use Rattle.ts_serve.proofs.session.SessionHandlerWorld.handle.Goals as goal

pub returns-clause-called : goal.returns-clause-called
returns-clause-called g c = called_in g.C.Link g.O.Link c.self.inside.inside c.args.self.now c.self.view_is
    g.P.Transform c.args.cx.now.calls c.handle_event.new.cx.calls c.handle_event.new.world c.handle_event.ensures.called

pub returns-clause-promises : goal.returns-clause-promises
returns-clause-promises g c = promises_in g.C.Link g.O.Link c.self.inside.inside c.args.self.now c.self.view_is
    c.handle_event.new.world c.handle_event.ensures.promises

pub returns-clause-few : goal.returns-clause-few
returns-clause-few g c = few_in g.C.Link g.O.Link c.self.inside.inside c.args.self.now c.self.view_is MOST_SET
    c.args.cx.now c.handle_event.new.cx c.handle_event.ensures.few
