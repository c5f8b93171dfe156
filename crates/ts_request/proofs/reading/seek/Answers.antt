-- The head is read on while nothing is known of it.
use Rattle.std.proofs.Common.{false, true, [], sym, ◌∙◌}
use Rattle.ts_request.proofs.FrontMoves.{heading_falls, heading_holds, is_heading_stage, is_known_stage}
use Rattle.ts_request.proofs.FrontMoves.{moves_after, moves_none}
use Rattle.ts_request.proofs.reading.seek.Goals as goal

pub head-init : goal.head-init
head-init g c = record {
  moves = moves_none g.C.Link.tells c.args.text.now (g.C.Link.look c.args.client.now);
  holds = c.requires;
  goes = g.met.C.Link.stays c.args.client.now;
}

pub seek_once-requires-clause-heading : goal.seek_once-requires-clause-heading
seek_once-requires-clause-heading g c =
    is_heading_stage c.head.text.stage (sym c.is_heading.ensures ∙ c.head-test.true)

pub head-preserved : goal.head-preserved
head-preserved g c = record {
  moves = moves_after g.C.Link.tells c.args.text.now c.head.text c.seek_once.new.text
      (g.C.Link.look c.args.client.now) (g.C.Link.look c.head.client) (g.C.Link.look c.seek_once.new.client)
      false false [] c.head.invariant.moves c.in-On.ensures.moves;
  holds = c.in-On.ensures.holds;
  goes = g.met.C.Link.goes_on _ _ _ c.head.invariant.goes c.in-On.ensures.goes;
}

pub head-smaller : goal.head-smaller
head-smaller g c =
    let stage = is_heading_stage c.head.text.stage (sym c.is_heading.ensures ∙ c.head-test.true) in
    heading_falls c.head.text c.seek_once.new.text stage
    (heading_holds g.C.Link.tells c.head.text
    (g.C.Link.look c.head.client) stage c.head.invariant.holds).2 c.in-On.ensures.on

pub returns-in-Again-clause-moves : goal.returns-in-Again-clause-moves
returns-in-Again-clause-moves g c =
    moves_after g.C.Link.tells c.args.text.now c.head.text c.seek_once.new.text
    (g.C.Link.look c.args.client.now) (g.C.Link.look c.head.client) (g.C.Link.look c.seek_once.new.client)
    false true [] c.head.invariant.moves c.in-Again.ensures.moves

pub returns-in-Again-clause-goes : goal.returns-in-Again-clause-goes
returns-in-Again-clause-goes g c = g.met.C.Link.goes_on _ _ _ c.head.invariant.goes c.in-Again.ensures.goes

pub returns-in-Failed-clause-moves : goal.returns-in-Failed-clause-moves
returns-in-Failed-clause-moves g c =
    moves_after g.C.Link.tells c.args.text.now c.head.text c.seek_once.new.text
    (g.C.Link.look c.args.client.now) (g.C.Link.look c.head.client) (g.C.Link.look c.seek_once.new.client)
    true false [] c.head.invariant.moves c.in-Failed.ensures.moves

pub returns-in-Failed-clause-goes : goal.returns-in-Failed-clause-goes
returns-in-Failed-clause-goes g c = g.met.C.Link.goes_on _ _ _ c.head.invariant.goes c.in-Failed.ensures.goes

pub returns-clause-known : goal.returns-clause-known
returns-clause-known g c = is_known_stage c.head.text.stage (sym c.is_heading.ensures ∙ c.head-test.false)
