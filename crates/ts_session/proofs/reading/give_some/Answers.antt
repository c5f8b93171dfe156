-- What is held is given first, and then what the client gives.
use Rattle.ts_session.proofs.Giving.{client_part, held_part}
use Rattle.ts_session.proofs.reading.give_some.Goals as goal

pub returns-then-count-gt0-clause-gives : goal.returns-then-count-gt0-clause-gives
returns-then-count-gt0-clause-gives g c =
    held_part g.C.Link.tells c.args.held.now c.give-count.new.self (g.C.Link.look c.args.client.now)
    c.args.most c.args.into.now c.give-count.new.into c.give-count.result c.give-count.ensures
    c.if-count-gt0.true

pub returns-clause-gives : goal.returns-clause-gives
returns-clause-gives g c =
    client_part g.C.Link.tells c.args.held.now c.give-count.new.self (g.C.Link.look c.args.client.now)
    (g.C.Link.look c.read_front.new.client) c.read_front.result c.args.most c.args.into.now
    c.give-count.new.into c.read_front.new.into c.give-count.result c.give-count.ensures c.if-count-gt0.false
    c.requires.room c.requires.some c.read_front.ensures.reads
