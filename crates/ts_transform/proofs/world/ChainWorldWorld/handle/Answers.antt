-- A world goes on as its chain does.
use Rattle.ts_transform.proofs.Driving.{goes_on_with, may_lose}
use Rattle.ts_transform.proofs.world.ChainWorldWorld.handle.Goals as goal

pub returns-clause-goes_on : goal.returns-clause-goes_on
returns-clause-goes_on g c =
    let self = c.args.self.now in
    let handle = c.handle-told in
    goes_on_with g.P.Transform.rest g.P.Transform.soon self (record self { driven = handle.new.self })
    c.args.cx.now handle.new.cx handle.ensures.gives

pub returns-clause-loses : goal.returns-clause-loses
returns-clause-loses g c =
    let handle = c.handle-told in
    may_lose handle.result c.args.self.now.driven handle.new.self c.args.cx.now handle.new.cx
    handle.ensures.loses
