-- A write of the response is one of the span.
use Rattle.ts_session.proofs.Dropping.{drops_line}
use Rattle.ts_session.proofs.Ends.{writes_span, written_sound}
use Rattle.ts_session.proofs.span.write_course.Goals as goal

pub write_response-put-requires-clause-within : goal.write_response-put-requires-clause-within
write_response-put-requires-clause-within g c = c.requires.sound.within

pub returns-clause-writes : goal.returns-clause-writes
returns-clause-writes g c =
    let write = c.write_response-put in
    let s = c.args.course.now in
    writes_span g.C.Link.look g.C.Link.tells c.may_go_on.result s write.new.client write.new.response
    (record s { cut = write.new.cut }) c.writes_after-writes.result write.result c.args.piece.now
    c.requires.sound c.may_go_on.ensures write.ensures.writes c.writes_after-writes.ensures

pub returns-clause-line : goal.returns-clause-line
returns-clause-line g c tell =
    let write = c.write_response-put in
    drops_line g.C.Link.look g.C.Link.tells c.may_go_on.result c.args.course.now write.new.response
    write.result c.args.piece.now c.requires.sound c.may_go_on.ensures write.ensures.drops tell

pub returns-clause-sound : goal.returns-clause-sound
returns-clause-sound g c =
    let write = c.write_response-put in
    let s = c.args.course.now in
    written_sound g.C.Link.look g.C.Link.tells c.may_go_on.result s write.new.client write.new.response
    (record s { cut = write.new.cut }) c.writes_after-writes.result write.result c.args.piece.now
    c.requires.sound c.may_go_on.ensures write.ensures.writes (λ tell whole. c.known.ensures tell)
    write.ensures.within
