-- A poll of the request is one of the span.
use Rattle.std.proofs.Common.{[]}
use Rattle.ts_session.specs.Reading.{poll_again, poll_failed}
use Rattle.ts_session.proofs.Ends.{ends_span, moved_sound, polls_span}
use Rattle.ts_session.proofs.span.poll_course.Goals as goal

pub poll_request-requires-clause-head : goal.poll_request-requires-clause-head
poll_request-requires-clause-head g c = c.requires.sound.request.head

pub returns-clause-shows : goal.returns-clause-shows
returns-clause-shows g c =
    let poll = c.poll_request in
    polls_span g.C.Link.look g.C.Link.tells c.args.course.now poll.new.client poll.new.request
    (poll_failed poll.result) (poll_again poll.result) c.requires.sound poll.ensures.polls.moves

pub returns-clause-ends : goal.returns-clause-ends
returns-clause-ends g c =
    let poll = c.poll_request in
    ends_span g.C.Link.look g.C.Link.tells
    (record c.args.course.now { client = poll.new.client; request = poll.new.request })
    (moved_sound g.C.Link.look g.C.Link.tells c.args.course.now poll.new.client poll.new.request
    c.args.course.now.reads (poll_failed poll.result) (poll_again poll.result) [] c.requires.sound
    poll.ensures.polls.moves)
    poll.result poll.ensures.polls.holds

pub returns-clause-sound : goal.returns-clause-sound
returns-clause-sound g c =
    let poll = c.poll_request in
    moved_sound g.C.Link.look g.C.Link.tells c.args.course.now poll.new.client poll.new.request
    c.args.course.now.reads (poll_failed poll.result) (poll_again poll.result) [] c.requires.sound
    poll.ensures.polls.moves
