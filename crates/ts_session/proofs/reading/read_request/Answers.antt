-- The client is read for the head, and then some of the request is given.
use Rattle.ts_session.proofs.Giving.{shows_after}
use Rattle.ts_session.proofs.reading.read_request.Goals as goal

pub returns-in-Known-clause-shows : goal.returns-in-Known-clause-shows
returns-in-Known-clause-shows g c =
    shows_after g.C.Link.tells c.args.request.now c.seek.new.request c.give_known.new.request
    (g.C.Link.look c.args.client.now) (g.C.Link.look c.seek.new.client) (g.C.Link.look c.give_known.new.client)
    c.give_known.result c.give_known.new.into c.in-On.ensures.moves c.give_known.ensures.shows

pub returns-in-Known-clause-goes : goal.returns-in-Known-clause-goes
returns-in-Known-clause-goes g c = g.met.C.Link.goes_on _ _ _ c.in-On.ensures.goes c.give_known.ensures.goes

pub returns-in-Chunks-clause-shows : goal.returns-in-Chunks-clause-shows
returns-in-Chunks-clause-shows g c =
    shows_after g.C.Link.tells c.args.request.now c.seek.new.request c.give_held.new.request
    (g.C.Link.look c.args.client.now) (g.C.Link.look c.seek.new.client) (g.C.Link.look c.seek.new.client)
    c.give_held.result c.give_held.new.into c.in-On.ensures.moves
    (c.give_held.ensures g.C.Link.tells (g.C.Link.look c.seek.new.client))

pub returns-in-Open-clause-shows : goal.returns-in-Open-clause-shows
returns-in-Open-clause-shows g c =
    shows_after g.C.Link.tells c.args.request.now c.seek.new.request c.give_open.new.request
    (g.C.Link.look c.args.client.now) (g.C.Link.look c.seek.new.client) (g.C.Link.look c.give_open.new.client)
    c.give_open.result c.give_open.new.into c.in-On.ensures.moves c.give_open.ensures.shows

pub returns-in-Open-clause-goes : goal.returns-in-Open-clause-goes
returns-in-Open-clause-goes g c = g.met.C.Link.goes_on _ _ _ c.in-On.ensures.goes c.give_open.ensures.goes

pub returns-in-Again-clause-shows : goal.returns-in-Again-clause-shows
returns-in-Again-clause-shows g c =
    record { fills = tt; moves = c.in-Again.ensures.moves; ends = λ before holds tell. tt }

pub returns-in-Failed-clause-shows : goal.returns-in-Failed-clause-shows
returns-in-Failed-clause-shows g c =
    record { fills = tt; moves = c.in-Failed.ensures.moves; ends = λ before holds tell. tt }
