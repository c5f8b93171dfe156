-- The next request begins where this one ended.
use Rattle.std.proofs.Common.{refl, ap, ◌∙◌, ◌+◌}
use Rattle.ts_session.proofs.Ends.{goes_behind, next_sound, place_within}
use Rattle.ts_session.proofs.span.next_course.Goals as goal

pub returns-clause-behind : goal.returns-clause-behind
returns-clause-behind g c tell =
    goes_behind g.C.Link.look g.C.Link.tells c.args.course c.requires.sound tell c.requires.dropped
    (record {
      client = c.args.course.client;
      begun = c.of-begun.result;
      surplus = c.len-surplus.result;
      cut = c.of-cut.result;
      request = c.behind-request.result;
      response = c.new-response.result;
      place = c.args.course.place + 1;
      reads = 0;
      writes = 0;
    })
    refl c.of-begun.ensures c.len-surplus.ensures
    c.behind-request.ensures.held_is
    c.new-response.ensures

pub returns-clause-since : goal.returns-clause-since
returns-clause-since g c =
    ap (λ (k : g.row.C.Denot). (g.C.Link.look k).before) c.of-begun.ensures ∙ c.requires.sound.begun

pub returns-clause-place : goal.returns-clause-place
returns-clause-place g c = (
  refl,
  place_within g.C.Link.look g.C.Link.tells c.args.course c.requires.sound c.requires.dropped,
)

pub returns-clause-unread : goal.returns-clause-unread
returns-clause-unread g c = c.behind-request.ensures.unread

pub returns-clause-sound : goal.returns-clause-sound
returns-clause-sound g c =
    next_sound g.C.Link.look g.C.Link.tells c.args.course _ c.requires.sound refl c.of-begun.ensures
    c.len-surplus.ensures c.behind-request.ensures c.new-response.ensures
