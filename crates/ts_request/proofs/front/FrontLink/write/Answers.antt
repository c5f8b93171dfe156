use Rattle.ts_request.proofs.FrontLink.{writes_body, writes_front, writes_holds}
use Rattle.ts_request.proofs.front.FrontLink.write.Goals as goal

pub invariant_of-self : goal.invariant_of-self
invariant_of-self g c =
    writes_holds g.C.Link.tells c.self.inside.text (g.C.Link.look c.self.inside.client)
    (g.C.Link.look c.write.new.self) c.write.result c.args.piece.now c.self.invariant c.write.ensures.writes

pub returns-clause-writes : goal.returns-clause-writes
returns-clause-writes g c =
    rw (← c.self.view_is)
    (writes_front g.C.Link.tells c.self.inside.text c.self.inside.reads (g.C.Link.look c.self.inside.client)
    (g.C.Link.look c.write.new.self) c.write.result c.args.piece.now c.self.invariant c.write.ensures.writes)

pub returns-clause-goes : goal.returns-clause-goes
returns-clause-goes g c =
    rw (← c.self.view_is) (record {
      client = c.write.ensures.goes;
      source = c.write.ensures.writes.calls.source;
      body = writes_body g.C.Link.tells c.self.inside.text (g.C.Link.look c.self.inside.client)
          (g.C.Link.look c.write.new.self) c.write.result c.args.piece.now c.self.invariant
          c.write.ensures.writes;
    })
