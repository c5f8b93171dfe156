-- Each answer of one read of the client for more of a body in chunks.
use Rattle.std.proofs.Common.{ap, arith, false, length, true}
use Rattle.ts_session.proofs.Giving.{chunks_ended, chunks_followed, chunks_fresh, chunks_there, chunks_wait}
use Rattle.ts_session.proofs.Giving.{moves_none}
use Rattle.ts_session.proofs.reading.seek_chunks.Goals as goal

pub returns-then-not-is_empty-clause-moves : goal.returns-then-not-is_empty-clause-moves
returns-then-not-is_empty-clause-moves g c =
    moves_none g.C.Link.tells c.args.request.now (g.C.Link.look c.args.client.now)

pub returns-then-not-is_empty-clause-known : goal.returns-then-not-is_empty-clause-known
returns-then-not-is_empty-clause-known g c =
    chunks_there c.args.request.now.reading c.args.request.now.held c.requires
    (c.is_empty.ensures.some c.if-not-is_empty.true)

pub returns-then-not-is_empty-clause-goes : goal.returns-then-not-is_empty-clause-goes
returns-then-not-is_empty-clause-goes g c = g.met.C.Link.stays c.args.client.now

pub fill-requires : goal.fill-requires
fill-requires g c = omega (arith, ap length (c.is_empty.ensures.none c.if-not-is_empty.false))

pub follow-requires : goal.follow-requires
follow-requires g c =
    chunks_fresh g.C.Link.tells c.args.request.now c.fill.new.self (g.C.Link.look c.args.client.now)
    (g.C.Link.look c.fill.new.client) c.in-Bytes.count c.in-Bytes.ensures.fills

pub returns-in-Bytes-clause-moves : goal.returns-in-Bytes-clause-moves
returns-in-Bytes-clause-moves g c =
    (chunks_followed g.C.Link.tells c.args.request.now c.fill.new.self (g.C.Link.look c.args.client.now)
    (g.C.Link.look c.fill.new.client) c.requires c.in-Bytes.count c.in-Bytes.ensures.fills c.follow.new.self
    c.follow.ensures).0

pub returns-in-Bytes-clause-known : goal.returns-in-Bytes-clause-known
returns-in-Bytes-clause-known g c =
    (chunks_followed g.C.Link.tells c.args.request.now c.fill.new.self (g.C.Link.look c.args.client.now)
    (g.C.Link.look c.fill.new.client) c.requires c.in-Bytes.count c.in-Bytes.ensures.fills c.follow.new.self
    c.follow.ensures).1

pub returns-in-End-clause-moves : goal.returns-in-End-clause-moves
returns-in-End-clause-moves g c =
    chunks_ended g.C.Link.tells c.args.request.now c.fill.new.self (g.C.Link.look c.args.client.now)
    (g.C.Link.look c.fill.new.client) c.requires c.in-End.ensures.fills

pub returns-in-Again-clause-moves : goal.returns-in-Again-clause-moves
returns-in-Again-clause-moves g c =
    let fills = c.in-Again.ensures.fills in
    chunks_wait g.C.Link.tells c.args.request.now c.fill.new.self (g.C.Link.look c.args.client.now)
    (g.C.Link.look c.fill.new.client) c.requires false true fills.held_is fills.reads.calls fills.reads.once.writes
    fills.whole fills.reads.told

pub returns-in-Failed-clause-moves : goal.returns-in-Failed-clause-moves
returns-in-Failed-clause-moves g c =
    let fills = c.in-Failed.ensures.fills in
    chunks_wait g.C.Link.tells c.args.request.now c.fill.new.self (g.C.Link.look c.args.client.now)
    (g.C.Link.look c.fill.new.client) c.requires true false fills.held_is fills.reads.calls fills.reads.once.writes
    fills.whole fills.reads.told
