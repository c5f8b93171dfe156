-- What is written is passed on.
use Rattle.ts_session.proofs.Writes.{rest_writes}
use Rattle.ts_session.proofs.writing.write_rest.Goals as goal

pub returns-clause-writes : goal.returns-clause-writes
returns-clause-writes g c may asks =
    rest_writes g.C.Link.tells may asks c.args.response.now (g.C.Link.look c.args.cut.now.value)
    (g.C.Link.look c.args.client.now) (g.C.Link.look c.write.new.self) c.write.result c.args.piece.now
    c.requires.rest c.write.ensures.writes
