-- The span of the next request is that of the client whose transaction ended whole.
use Rattle.std.proofs.Common.{◌≡◌, subst, sym, true}
use Rattle.ts_session.specs.Course.{is_dropped}
use Rattle.ts_session.specs.declared.course.Course.{Course}
use Rattle.ts_layers.specs.Sessions.{IsNextSpan}
use Rattle.ts_layers.proofs.session.leave_session.Goals as goal

pub returns-then-may_go_on : goal.returns-then-may_go_on
returns-then-may_go_on g c =
    let went = c.may_go_on.ensures.0 c.if-may_go_on.true in
    let span = c.beside_client-span.ensures.client in
    let dropped = subst (λ (s : Course g.row.C.Denot). is_dropped s.response.sending ≡ true) (sym span)
    went.dropped in (
      went,
      c.beside_client-span.ensures.parts,
      subst (λ (s : Course g.row.C.Denot). IsNextSpan g.C.Link s c.next.result) span (record {
        rule = λ tells. c.known_rule.ensures tells dropped;
        behind = c.next.ensures.behind;
        client_is = c.next.ensures.client;
        since = c.next.ensures.since;
        place_is = c.next.ensures.place;
        within = c.next.ensures.within;
        unread = c.next.ensures.unread;
      }),
    )
