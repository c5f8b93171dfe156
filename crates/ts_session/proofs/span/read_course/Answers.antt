-- A read of the request is one of the span.
use Rattle.std.proofs.Common.{take}
use Rattle.ts_link.specs.LinkAnswers.{count_got, got_again, got_failed}
use Rattle.ts_session.proofs.Ends.{moved_sound, reads_span}
use Rattle.ts_session.proofs.span.read_course.Goals as goal

pub returns-clause-reads : goal.returns-clause-reads
returns-clause-reads g c =
    let read = c.read_request-got in
    reads_span g.C.Link.look g.C.Link.tells c.args.course.now read.new.client read.new.request
    c.counted-reads.result read.result read.new.into c.requires.sound read.ensures.shows
    c.counted-reads.ensures

pub returns-clause-sound : goal.returns-clause-sound
returns-clause-sound g c =
    let read = c.read_request-got in
    moved_sound g.C.Link.look g.C.Link.tells c.args.course.now read.new.client read.new.request
    c.counted-reads.result (got_failed read.result) (got_again read.result)
    (take (count_got read.result) read.new.into) c.requires.sound read.ensures.shows.moves
