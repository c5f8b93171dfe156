-- The client is read for the head, and then what is known of it is shown.
use Rattle.ts_request.proofs.FrontShows.{shows_after}
use Rattle.ts_request.proofs.reading.read_front.Goals as goal

pub returns-in-On-clause-shows : goal.returns-in-On-clause-shows
returns-in-On-clause-shows g c =
    shows_after g.C.Link.tells c.args.text.now c.seek.new.text c.show.new.text
    (g.C.Link.look c.args.client.now) (g.C.Link.look c.seek.new.client) (g.C.Link.look c.show.new.client)
    c.show.result c.show.new.into c.in-On.ensures.moves c.show.ensures.shows

pub returns-in-On-clause-goes : goal.returns-in-On-clause-goes
returns-in-On-clause-goes g c = g.met.C.Link.goes_on _ _ _ c.in-On.ensures.goes c.show.ensures.goes

pub returns-in-Again-clause-shows : goal.returns-in-Again-clause-shows
returns-in-Again-clause-shows g c =
    record { fills = tt; moves = c.in-Again.ensures.moves; ends = λ tell. tt }

pub returns-in-Failed-clause-shows : goal.returns-in-Failed-clause-shows
returns-in-Failed-clause-shows g c =
    record { fills = tt; moves = c.in-Failed.ensures.moves; ends = λ tell. tt }
