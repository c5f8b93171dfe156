-- Each answer of a poll.
use Rattle.ts_session.proofs.Giving.{filled_fresh, head_holds}
use Rattle.ts_session.proofs.Polling.{again_polls, bytes_polls, end_polls, failed_polls, held_polls}
use Rattle.ts_session.proofs.Polling.{unread_head}
use Rattle.ts_session.proofs.reading.poll_request.Goals as goal

pub returns-then-not-is_empty-clause-polls : goal.returns-then-not-is_empty-clause-polls
returns-then-not-is_empty-clause-polls g c =
    held_polls g.C.Link.tells c.args.request.now (g.C.Link.look c.args.client.now)
    (c.is_empty.ensures.some c.if-not-is_empty.true)

pub fill-requires : goal.fill-requires
fill-requires g c =
    let none = c.is_empty.ensures.none c.if-not-is_empty.false in
    (head_holds c.args.request.now (unread_head c.args.request.now c.requires.unread none) c.requires.head).1

pub decide-requires-clause-head : goal.decide-requires-clause-head
decide-requires-clause-head g c =
    unread_head c.args.request.now c.requires.unread (c.is_empty.ensures.none c.if-not-is_empty.false)

pub decide-requires-clause-fresh : goal.decide-requires-clause-fresh
decide-requires-clause-fresh g c =
    let none = c.is_empty.ensures.none c.if-not-is_empty.false in
    (filled_fresh g.C.Link.tells c.args.request.now c.fill.new.self (g.C.Link.look c.args.client.now)
    (g.C.Link.look c.fill.new.client) (unread_head c.args.request.now c.requires.unread none) c.requires.head
    c.in-Bytes.count c.in-Bytes.ensures.fills).0

pub decide-requires-clause-lacks : goal.decide-requires-clause-lacks
decide-requires-clause-lacks g c =
    let none = c.is_empty.ensures.none c.if-not-is_empty.false in
    (filled_fresh g.C.Link.tells c.args.request.now c.fill.new.self (g.C.Link.look c.args.client.now)
    (g.C.Link.look c.fill.new.client) (unread_head c.args.request.now c.requires.unread none) c.requires.head
    c.in-Bytes.count c.in-Bytes.ensures.fills).1

pub returns-in-Bytes-clause-polls : goal.returns-in-Bytes-clause-polls
returns-in-Bytes-clause-polls g c =
    let none = c.is_empty.ensures.none c.if-not-is_empty.false in
    bytes_polls g.C.Link.tells c.args.request.now c.fill.new.self (g.C.Link.look c.args.client.now)
    (g.C.Link.look c.fill.new.client) (unread_head c.args.request.now c.requires.unread none) c.requires.head
    none _ c.in-Bytes.ensures.fills c.decide.new.self c.decide.ensures

pub returns-in-End-clause-polls : goal.returns-in-End-clause-polls
returns-in-End-clause-polls g c =
    let none = c.is_empty.ensures.none c.if-not-is_empty.false in
    end_polls g.C.Link.tells c.args.request.now c.fill.new.self (g.C.Link.look c.args.client.now)
    (g.C.Link.look c.fill.new.client) (unread_head c.args.request.now c.requires.unread none) c.requires.head
    none c.in-End.ensures.fills

pub returns-in-Again-clause-polls : goal.returns-in-Again-clause-polls
returns-in-Again-clause-polls g c =
    let none = c.is_empty.ensures.none c.if-not-is_empty.false in
    again_polls g.C.Link.tells c.args.request.now c.fill.new.self (g.C.Link.look c.args.client.now)
    (g.C.Link.look c.fill.new.client) (unread_head c.args.request.now c.requires.unread none) c.requires.head
    none c.in-Again.ensures.fills

pub returns-in-Failed-clause-polls : goal.returns-in-Failed-clause-polls
returns-in-Failed-clause-polls g c =
    let none = c.is_empty.ensures.none c.if-not-is_empty.false in
    failed_polls g.C.Link.tells c.args.request.now c.fill.new.self (g.C.Link.look c.args.client.now)
    (g.C.Link.look c.fill.new.client) (unread_head c.args.request.now c.requires.unread none) c.requires.head
    none c.in-Failed.ensures.fills
