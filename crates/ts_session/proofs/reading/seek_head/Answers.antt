-- The head is read on while it is not known where the request ends.
use Rattle.std.proofs.Common.{[], false, sym, true, ◌∙◌}
use Rattle.ts_session.proofs.Giving.{head_holds, heading_falls, is_head_stage, moves_after, moves_none}
use Rattle.ts_session.proofs.reading.seek_head.Goals as goal

pub head-init : goal.head-init
head-init g c = record {
  moves = moves_none g.C.Link.tells c.args.request.now (g.C.Link.look c.args.client.now);
  room = c.requires;
  goes = g.met.C.Link.stays c.args.client.now;
}

pub seek_once-requires-clause-head : goal.seek_once-requires-clause-head
seek_once-requires-clause-head g c =
    is_head_stage c.head.request.reading (sym c.is_head.ensures ∙ c.head-test.true)

pub head-preserved : goal.head-preserved
head-preserved g c = record {
  moves = moves_after g.C.Link.tells c.args.request.now c.head.request c.seek_once.new.request
      (g.C.Link.look c.args.client.now) (g.C.Link.look c.head.client) (g.C.Link.look c.seek_once.new.client)
      false false [] c.head.invariant.moves c.in-On.ensures.moves;
  room = c.in-On.ensures.room;
  goes = g.met.C.Link.goes_on _ _ _ c.head.invariant.goes c.in-On.ensures.goes;
}

pub head-smaller : goal.head-smaller
head-smaller g c =
    let stage = is_head_stage c.head.request.reading (sym c.is_head.ensures ∙ c.head-test.true) in
    heading_falls c.head.request c.seek_once.new.request stage
    (head_holds c.head.request stage c.head.invariant.room).1 c.in-On.ensures.on

pub returns-in-Again-clause-moves : goal.returns-in-Again-clause-moves
returns-in-Again-clause-moves g c =
    moves_after g.C.Link.tells c.args.request.now c.head.request c.seek_once.new.request
    (g.C.Link.look c.args.client.now) (g.C.Link.look c.head.client) (g.C.Link.look c.seek_once.new.client)
    false true [] c.head.invariant.moves c.in-Again.ensures.moves

pub returns-in-Again-clause-goes : goal.returns-in-Again-clause-goes
returns-in-Again-clause-goes g c = g.met.C.Link.goes_on _ _ _ c.head.invariant.goes c.in-Again.ensures.goes

pub returns-in-Failed-clause-moves : goal.returns-in-Failed-clause-moves
returns-in-Failed-clause-moves g c =
    moves_after g.C.Link.tells c.args.request.now c.head.request c.seek_once.new.request
    (g.C.Link.look c.args.client.now) (g.C.Link.look c.head.client) (g.C.Link.look c.seek_once.new.client)
    true false [] c.head.invariant.moves c.in-Failed.ensures.moves

pub returns-in-Failed-clause-goes : goal.returns-in-Failed-clause-goes
returns-in-Failed-clause-goes g c = g.met.C.Link.goes_on _ _ _ c.head.invariant.goes c.in-Failed.ensures.goes

pub returns-clause-known : goal.returns-clause-known
returns-clause-known g c = sym c.is_head.ensures ∙ c.head-test.false
