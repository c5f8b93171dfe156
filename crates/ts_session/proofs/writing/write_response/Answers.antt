-- A response that is passed on.
use Rattle.std.proofs.Common.{subst, sym}
use Rattle.ts_session.specs.Course.{IsRest}
use Rattle.ts_session.proofs.Writes.{rest_drops}
use Rattle.ts_session.proofs.writing.write_response.Goals as goal

pub returns-in-Dropped-clause-writes : goal.returns-in-Dropped-clause-writes
returns-in-Dropped-clause-writes g c = c.write_rest.ensures.writes c.args.rule.may_go_on c.args.rule.asks_head

pub returns-in-Dropped-clause-drops : goal.returns-in-Dropped-clause-drops
returns-in-Dropped-clause-drops g c =
    rest_drops g.C.Link.tells c.args.rule.may_go_on c.args.rule.asks_head c.args.response.now
    (g.C.Link.look c.args.cut.now.value) (g.C.Link.look c.args.client.now)
    (g.C.Link.look c.write_rest.new.client) c.write_rest.result c.args.piece.now
    (subst IsRest (sym c.in-Dropped.is) tt)

pub returns-in-Passing-clause-writes : goal.returns-in-Passing-clause-writes
returns-in-Passing-clause-writes g c = c.write_rest-in-Passing.ensures.writes c.args.rule.may_go_on c.args.rule.asks_head

pub returns-in-Passing-clause-drops : goal.returns-in-Passing-clause-drops
returns-in-Passing-clause-drops g c =
    rest_drops g.C.Link.tells c.args.rule.may_go_on c.args.rule.asks_head c.args.response.now
    (g.C.Link.look c.args.cut.now.value) (g.C.Link.look c.args.client.now)
    (g.C.Link.look c.write_rest-in-Passing.new.client) c.write_rest-in-Passing.result c.args.piece.now
    (subst IsRest (sym c.in-Passing.is) tt)
