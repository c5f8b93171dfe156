-- Each answer of one read of the client for the head.
use Rattle.std.proofs.Common.{ap, arith, inr, length}
use Rattle.ts_session.proofs.Giving.{filled_ended, filled_fails, filled_fresh, filled_known, filled_waits}
use Rattle.ts_session.proofs.Giving.{filled_more, head_holds}
use Rattle.ts_session.proofs.reading.seek_once.Goals as goal

pub fill-requires : goal.fill-requires
fill-requires g c = (head_holds c.args.request.now c.requires.head c.requires.room).1

pub decide-requires-clause-fresh : goal.decide-requires-clause-fresh
decide-requires-clause-fresh g c =
    (filled_fresh g.C.Link.tells c.args.request.now c.fill.new.self (g.C.Link.look c.args.client.now)
    (g.C.Link.look c.fill.new.client) c.requires.head c.requires.room c.in-Bytes.count c.in-Bytes.ensures.fills).0

pub decide-requires-clause-lacks : goal.decide-requires-clause-lacks
decide-requires-clause-lacks g c =
    (filled_fresh g.C.Link.tells c.args.request.now c.fill.new.self (g.C.Link.look c.args.client.now)
    (g.C.Link.look c.fill.new.client) c.requires.head c.requires.room c.in-Bytes.count c.in-Bytes.ensures.fills).1

pub returns-in-Bytes-clause-moves : goal.returns-in-Bytes-clause-moves
returns-in-Bytes-clause-moves g c =
    (filled_known g.C.Link.tells c.args.request.now c.fill.new.self (g.C.Link.look c.args.client.now)
    (g.C.Link.look c.fill.new.client) c.requires.head c.requires.room _ c.in-Bytes.ensures.fills
    c.decide.new.self c.decide.ensures).0

pub returns-in-Bytes-clause-room : goal.returns-in-Bytes-clause-room
returns-in-Bytes-clause-room g c =
    (filled_known g.C.Link.tells c.args.request.now c.fill.new.self (g.C.Link.look c.args.client.now)
    (g.C.Link.look c.fill.new.client) c.requires.head c.requires.room _ c.in-Bytes.ensures.fills
    c.decide.new.self c.decide.ensures).1

pub returns-in-Bytes-clause-on : goal.returns-in-Bytes-clause-on
returns-in-Bytes-clause-on g c =
    let more = filled_more g.C.Link.tells c.args.request.now c.fill.new.self (g.C.Link.look c.args.client.now)
    (g.C.Link.look c.fill.new.client) c.requires.head c.requires.room c.in-Bytes.count c.in-Bytes.ensures.fills in
    inr (omega (arith, more, ap length c.decide.ensures.held_is))

pub returns-in-End-clause-moves : goal.returns-in-End-clause-moves
returns-in-End-clause-moves g c =
    filled_ended g.C.Link.tells c.args.request.now c.fill.new.self (g.C.Link.look c.args.client.now)
    (g.C.Link.look c.fill.new.client) c.requires.head c.requires.room c.in-End.ensures.fills

pub returns-in-Again-clause-moves : goal.returns-in-Again-clause-moves
returns-in-Again-clause-moves g c =
    (filled_waits g.C.Link.tells c.args.request.now c.fill.new.self (g.C.Link.look c.args.client.now)
    (g.C.Link.look c.fill.new.client) c.requires.head c.requires.room c.in-Again.ensures.fills).0

pub returns-in-Again-clause-room : goal.returns-in-Again-clause-room
returns-in-Again-clause-room g c =
    (filled_waits g.C.Link.tells c.args.request.now c.fill.new.self (g.C.Link.look c.args.client.now)
    (g.C.Link.look c.fill.new.client) c.requires.head c.requires.room c.in-Again.ensures.fills).1

pub returns-in-Failed-clause-moves : goal.returns-in-Failed-clause-moves
returns-in-Failed-clause-moves g c =
    (filled_fails g.C.Link.tells c.args.request.now c.fill.new.self (g.C.Link.look c.args.client.now)
    (g.C.Link.look c.fill.new.client) c.requires.head c.requires.room c.in-Failed.ensures.fills).0

pub returns-in-Failed-clause-room : goal.returns-in-Failed-clause-room
returns-in-Failed-clause-room g c =
    (filled_fails g.C.Link.tells c.args.request.now c.fill.new.self (g.C.Link.look c.args.client.now)
    (g.C.Link.look c.fill.new.client) c.requires.head c.requires.room c.in-Failed.ensures.fills).1
