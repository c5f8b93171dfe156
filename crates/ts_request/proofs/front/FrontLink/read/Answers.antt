use Rattle.ts_request.proofs.FrontLink.{reads_front}
use Rattle.ts_request.proofs.front.FrontLink.read.Goals as goal

pub returns-clause-reads : goal.returns-clause-reads
returns-clause-reads g c =
    rw (← c.self.view_is)
    (reads_front g.C.Link.tells c.self.inside.text c.read_front-got.new.text
    (g.C.Link.look c.self.inside.client) (g.C.Link.look c.read_front-got.new.client)
    c.self.inside.reads c.saturating_add-self-inside.result c.read_front-got.result c.read_front-got.new.into
    c.read_front-got.ensures.shows c.saturating_add-self-inside.ensures)

pub returns-clause-goes : goal.returns-clause-goes
returns-clause-goes g c =
    rw (← c.self.view_is) (record {
      client = c.read_front-got.ensures.goes;
      source = c.read_front-got.ensures.shows.moves.calls.source;
      body = c.read_front-got.ensures.shows.moves.body;
    })
