-- What waits is shown first, and then the client, or the end behind the head of an upload.
use Rattle.std.proofs.Common.{sym, ◌∙◌}
use Rattle.ts_request.proofs.FrontShows.{client_shown, end_shown, waiting_shown}
use Rattle.ts_request.proofs.reading.show.Goals as goal

pub returns-then-count-gt0-clause-shows : goal.returns-then-count-gt0-clause-shows
returns-then-count-gt0-clause-shows g c =
    (waiting_shown g.C.Link.tells c.args.text.now c.give-count.new.self (g.C.Link.look c.args.client.now)
    c.args.into.now c.give-count.new.into c.give-count.result c.give-count.ensures c.if-count-gt0.true
    c.requires.known c.requires.holds).0

pub returns-then-count-gt0-clause-holds : goal.returns-then-count-gt0-clause-holds
returns-then-count-gt0-clause-holds g c =
    (waiting_shown g.C.Link.tells c.args.text.now c.give-count.new.self (g.C.Link.look c.args.client.now)
    c.args.into.now c.give-count.new.into c.give-count.result c.give-count.ensures c.if-count-gt0.true
    c.requires.known c.requires.holds).1

pub returns-in-Uploading-clause-shows : goal.returns-in-Uploading-clause-shows
returns-in-Uploading-clause-shows g c =
    (end_shown g.C.Link.tells c.args.text.now c.give-count.new.self (g.C.Link.look c.args.client.now) _
    c.args.into.now c.give-count.new.into c.give-count.result c.give-count.ensures c.if-count-gt0.false
    c.requires.room (sym c.stage.ensures ∙ c.in-Uploading.is) c.requires.holds).0

pub returns-in-Uploading-clause-holds : goal.returns-in-Uploading-clause-holds
returns-in-Uploading-clause-holds g c =
    (end_shown g.C.Link.tells c.args.text.now c.give-count.new.self (g.C.Link.look c.args.client.now) _
    c.args.into.now c.give-count.new.into c.give-count.result c.give-count.ensures c.if-count-gt0.false
    c.requires.room (sym c.stage.ensures ∙ c.in-Uploading.is) c.requires.holds).1

pub returns-in-Passing-clause-shows : goal.returns-in-Passing-clause-shows
returns-in-Passing-clause-shows g c =
    (client_shown g.C.Link.tells c.args.text.now c.give-count.new.self (g.C.Link.look c.args.client.now)
    (g.C.Link.look c.read.new.self) c.read.result
    c.args.into.now c.give-count.new.into c.read.new.into c.give-count.result c.give-count.ensures
    c.if-count-gt0.false c.requires.room
    (sym c.stage.ensures ∙ c.in-Passing.is) c.requires.holds c.read.ensures.reads).0

pub returns-in-Passing-clause-holds : goal.returns-in-Passing-clause-holds
returns-in-Passing-clause-holds g c =
    (client_shown g.C.Link.tells c.args.text.now c.give-count.new.self (g.C.Link.look c.args.client.now)
    (g.C.Link.look c.read.new.self) c.read.result
    c.args.into.now c.give-count.new.into c.read.new.into c.give-count.result c.give-count.ensures
    c.if-count-gt0.false c.requires.room
    (sym c.stage.ensures ∙ c.in-Passing.is) c.requires.holds c.read.ensures.reads).1
