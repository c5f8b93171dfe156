-- All that the client gives belongs to the request.
use Rattle.ts_session.proofs.Giving.{open_given}
use Rattle.ts_session.proofs.reading.give_open.Goals as goal

pub returns-clause-shows : goal.returns-clause-shows
returns-clause-shows g c =
    open_given g.C.Link.tells c.args.request.now c.requires.open_end c.give_some.new.held
    (g.C.Link.look c.args.client.now) (g.C.Link.look c.give_some.new.client) c.give_some.result _
    c.give_some.new.into c.give_some.ensures.gives
