-- The client is read for the head, and then for the body.
use Rattle.std.proofs.Common.{[]}
use Rattle.ts_session.specs.Reading.{sought_again, sought_failed}
use Rattle.ts_session.proofs.Giving.{moves_after}
use Rattle.ts_session.proofs.reading.seek.Goals as goal

pub returns-in-On-clause-moves : goal.returns-in-On-clause-moves
returns-in-On-clause-moves g c =
    moves_after g.C.Link.tells c.args.request.now c.seek_head.new.request c.seek_body.new.request
    (g.C.Link.look c.args.client.now) (g.C.Link.look c.seek_head.new.client) (g.C.Link.look c.seek_body.new.client)
    (sought_failed c.seek_body.result) (sought_again c.seek_body.result) [] c.in-On.ensures.moves
    c.seek_body.ensures.moves

pub returns-in-On-clause-goes : goal.returns-in-On-clause-goes
returns-in-On-clause-goes g c = g.met.C.Link.goes_on _ _ _ c.in-On.ensures.goes c.seek_body.ensures.goes
