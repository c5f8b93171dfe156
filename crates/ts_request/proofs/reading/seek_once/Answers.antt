-- Each answer of one read of the client for the head.
use Rattle.std.proofs.Common.{ap, inl, subst, sym, ◌∙◌}
use Rattle.httparse.specs.Grammar.{HasNoRequest}
use Rattle.ts_request.specs.Text.{Text}
use Rattle.ts_request.proofs.FrontMoves.{filled_ended, filled_fails, filled_known, filled_on, filled_waits}
use Rattle.ts_request.proofs.FrontMoves.{came_last, heading_holds, passes_known}
use Rattle.ts_request.proofs.reading.seek_once.Goals as goal

pub fill-requires-clause-room : goal.fill-requires-clause-room
fill-requires-clause-room g c =
    (heading_holds g.C.Link.tells c.args.text.now
    (g.C.Link.look c.args.client.now) c.requires.heading c.requires.holds).2

pub fill-requires-clause-behind : goal.fill-requires-clause-behind
fill-requires-clause-behind g c =
    (heading_holds g.C.Link.tells c.args.text.now
    (g.C.Link.look c.args.client.now) c.requires.heading c.requires.holds).1

pub decide-requires-clause-heading : goal.decide-requires-clause-heading
decide-requires-clause-heading g c =
    ap (λ (u : Text). u.stage) c.in-Bytes.ensures.fills.text ∙ c.requires.heading

pub decide-requires-clause-shown : goal.decide-requires-clause-shown
decide-requires-clause-shown g c =
    ap (λ (u : Text). u.shown) c.in-Bytes.ensures.fills.text
    ∙ (heading_holds g.C.Link.tells c.args.text.now
    (g.C.Link.look c.args.client.now) c.requires.heading c.requires.holds).0

pub decide-requires-clause-behind : goal.decide-requires-clause-behind
decide-requires-clause-behind g c =
    ap (λ (u : Text). u.behind) c.in-Bytes.ensures.fills.text
    ∙ (heading_holds g.C.Link.tells c.args.text.now
    (g.C.Link.look c.args.client.now) c.requires.heading c.requires.holds).1

pub decide-requires-clause-fresh : goal.decide-requires-clause-fresh
decide-requires-clause-fresh g c = (came_last c.in-Bytes.ensures.fills).0

pub decide-requires-clause-none : goal.decide-requires-clause-none
decide-requires-clause-none g c =
    subst HasNoRequest (sym (came_last c.in-Bytes.ensures.fills).1)
    (heading_holds g.C.Link.tells c.args.text.now
    (g.C.Link.look c.args.client.now) c.requires.heading c.requires.holds).3

pub returns-in-Bytes-clause-moves : goal.returns-in-Bytes-clause-moves
returns-in-Bytes-clause-moves g c =
    (filled_known g.C.Link.tells c.args.text.now c.fill.new.self c.decide.new.self
    (g.C.Link.look c.args.client.now) (g.C.Link.look c.fill.new.client) _ c.requires.heading c.requires.holds
    c.in-Bytes.ensures.fills c.decide.ensures).0

pub returns-in-Bytes-clause-holds : goal.returns-in-Bytes-clause-holds
returns-in-Bytes-clause-holds g c =
    (filled_known g.C.Link.tells c.args.text.now c.fill.new.self c.decide.new.self
    (g.C.Link.look c.args.client.now) (g.C.Link.look c.fill.new.client) _ c.requires.heading c.requires.holds
    c.in-Bytes.ensures.fills c.decide.ensures).1

pub returns-in-Bytes-clause-on : goal.returns-in-Bytes-clause-on
returns-in-Bytes-clause-on g c =
    filled_on g.C.Link.tells c.args.text.now c.fill.new.self c.decide.new.self
    (g.C.Link.look c.args.client.now)
    (g.C.Link.look c.fill.new.client) _ c.in-Bytes.ensures.fills c.decide.ensures

pub returns-in-End-clause-moves : goal.returns-in-End-clause-moves
returns-in-End-clause-moves g c =
    (filled_ended g.C.Link.tells c.args.text.now c.fill.new.self c.pass.new.self
    (g.C.Link.look c.args.client.now) (g.C.Link.look c.fill.new.client) c.requires.heading c.requires.holds
    c.in-End.ensures.fills c.pass.ensures).0

pub returns-in-End-clause-holds : goal.returns-in-End-clause-holds
returns-in-End-clause-holds g c =
    (filled_ended g.C.Link.tells c.args.text.now c.fill.new.self c.pass.new.self
    (g.C.Link.look c.args.client.now) (g.C.Link.look c.fill.new.client) c.requires.heading c.requires.holds
    c.in-End.ensures.fills c.pass.ensures).1

pub returns-in-End-clause-on : goal.returns-in-End-clause-on
returns-in-End-clause-on g c = inl (passes_known c.fill.new.self c.pass.new.self c.pass.ensures)

pub returns-in-Again-clause-moves : goal.returns-in-Again-clause-moves
returns-in-Again-clause-moves g c =
    (filled_waits g.C.Link.tells c.args.text.now c.fill.new.self (g.C.Link.look c.args.client.now)
    (g.C.Link.look c.fill.new.client) c.requires.heading c.requires.holds c.in-Again.ensures.fills).0

pub returns-in-Again-clause-holds : goal.returns-in-Again-clause-holds
returns-in-Again-clause-holds g c =
    (filled_waits g.C.Link.tells c.args.text.now c.fill.new.self (g.C.Link.look c.args.client.now)
    (g.C.Link.look c.fill.new.client) c.requires.heading c.requires.holds c.in-Again.ensures.fills).1

pub returns-in-Failed-clause-moves : goal.returns-in-Failed-clause-moves
returns-in-Failed-clause-moves g c =
    (filled_fails g.C.Link.tells c.args.text.now c.fill.new.self (g.C.Link.look c.args.client.now)
    (g.C.Link.look c.fill.new.client) c.requires.heading c.requires.holds c.in-Failed.ensures.fills).0

pub returns-in-Failed-clause-holds : goal.returns-in-Failed-clause-holds
returns-in-Failed-clause-holds g c =
    (filled_fails g.C.Link.tells c.args.text.now c.fill.new.self (g.C.Link.look c.args.client.now)
    (g.C.Link.look c.fill.new.client) c.requires.heading c.requires.holds c.in-Failed.ensures.fills).1
