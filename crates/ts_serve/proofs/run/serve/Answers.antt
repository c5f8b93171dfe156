-- A net is served in a server of the terms of the setting, and the account at the end is that of the
-- acceptor.
use Rattle.std.proofs.Common.{sym, subst}
use Rattle.std.specs.Prelude.{OnOk}
use Rattle.ts_slot.specs.Words.{tags_of, view}
use Rattle.ts_serve.specs.Acceptor.{HasPlacesOf, IsOver, LosesNobody}
use Rattle.ts_serve.specs.Servers.{CanAskInServer}
use Rattle.ts_serve.specs.Served.{IsServed}
use Rattle.ts_serve.proofs.Servers.{server_places}
use Rattle.ts_serve.proofs.Serves.{lacked_retired, lacked_served, lacked_sessions, splits_few, whole_retired}
use Rattle.ts_serve.proofs.Serves.{whole_served, whole_sessions, whole_spent}
use Rattle.ts_serve.proofs.run.serve.Goals as goal

pub run_event_threads-joined-requires-clause-asks : goal.run_event_threads-joined-requires-clause-asks
run_event_threads-joined-requires-clause-asks g c κs within =
    let places = c.in-Ok-open_server.ensures.places in
    let opened = c.in-Ok-open_server.ensures.opened places.0 places.1 in
    subst (CanAskInServer g.W.Slotted.fits g.W.Tenant.keeps g.W.World.may_ask g.W.World.right
    g.W.World.answers
    g.P.Slotted.fits g.P.World.only_asked g.P.World.may_ask g.P.World.right g.P.World.answers)
    (sym opened.tags_are) (c.requires.others.1 places.0 places.1)

pub run_event_threads-joined-requires-clause-works : goal.run_event_threads-joined-requires-clause-works
run_event_threads-joined-requires-clause-works g c κs within =
    let places = c.in-Ok-open_server.ensures.places in
    let opened = c.in-Ok-open_server.ensures.opened places.0 places.1 in
    let desk = c.in-Ok-open_server.server.desk in (
      record {
        ready = opened.desk;
        some = c.requires.threads.0;
        idle = opened.idle;
        splits = splits_few c.args.threads desk.seat desk.pass c.requires.threads.1 opened.splits;
      },
      c.requires.threads.1,
    )

pub returns-in-Ok-ended-clause-retired : goal.returns-in-Ok-ended-clause-retired
returns-in-Ok-ended-clause-retired g c = λ telling terms are.
    let opened = c.in-Ok-open_server.ensures.opened terms are in
    let places = subst (λ ts. HasPlacesOf ts terms) (sym opened.tags_are)
    (server_places terms c.args.others.items) in
    whole_retired g.W.Slotted.fits g.W.Tenant.keeps g.P.Slotted.fits g.W.Handler.behind g.W.Handler.is_done
    g.W.Handler.is_spent g.W.Handler.is_note g.N.Net.tells
    (HasPlacesOf (tags_of c.in-Ok-open_server.server.slots))
    (view c.in-Ok-open_server.server.desk.seat).known (view c.run_event_threads-joined.result.desk.seat).known
    c.args.most c.in-Ok.acceptor c.run_event_threads-joined.result.acceptor (g.N.Net.seen c.args.net.now)
    (g.N.Net.seen c.run_event_threads-joined.new.net) c.in-Ok.ensures c.requires.net
    c.run_event_threads-joined.ensures.serves.goes.at_acceptor telling terms places

pub returns-in-Ok-ended-clause-sessions : goal.returns-in-Ok-ended-clause-sessions
returns-in-Ok-ended-clause-sessions g c = λ telling terms are.
    let opened = c.in-Ok-open_server.ensures.opened terms are in
    let places = subst (λ ts. HasPlacesOf ts terms) (sym opened.tags_are)
    (server_places terms c.args.others.items) in
    whole_sessions g.W.Slotted.fits g.W.Tenant.keeps g.P.Slotted.fits g.W.Handler.behind g.W.Handler.is_done
    g.W.Handler.is_spent g.W.Handler.is_note g.N.Net.tells
    (HasPlacesOf (tags_of c.in-Ok-open_server.server.slots))
    (view c.in-Ok-open_server.server.desk.seat).known (view c.run_event_threads-joined.result.desk.seat).known
    c.args.most c.in-Ok.acceptor c.run_event_threads-joined.result.acceptor (g.N.Net.seen c.args.net.now)
    (g.N.Net.seen c.run_event_threads-joined.new.net) c.in-Ok.ensures c.requires.net
    c.run_event_threads-joined.ensures.serves.goes.at_acceptor telling terms places

pub returns-in-Ok-ended-clause-spent : goal.returns-in-Ok-ended-clause-spent
returns-in-Ok-ended-clause-spent g c = λ telling whole terms are.
    let opened = c.in-Ok-open_server.ensures.opened terms are in
    let places = subst (λ ts. HasPlacesOf ts terms) (sym opened.tags_are)
    (server_places terms c.args.others.items) in
    whole_spent g.W.Slotted.fits g.W.Tenant.keeps g.P.Slotted.fits g.W.Handler.behind g.W.Handler.is_done
    g.W.Handler.is_spent g.W.Handler.is_note g.N.Net.tells
    (HasPlacesOf (tags_of c.in-Ok-open_server.server.slots))
    (view c.in-Ok-open_server.server.desk.seat).known (view c.run_event_threads-joined.result.desk.seat).known
    c.args.most c.in-Ok.acceptor c.run_event_threads-joined.result.acceptor (g.N.Net.seen c.args.net.now)
    (g.N.Net.seen c.run_event_threads-joined.new.net) c.in-Ok.ensures c.requires.net
    c.run_event_threads-joined.ensures.serves.goes.at_acceptor telling terms places

pub returns-in-Ok-ended-clause-served : goal.returns-in-Ok-ended-clause-served
returns-in-Ok-ended-clause-served g c =
    let joined = c.run_event_threads-joined in
    let old = g.N.Net.seen c.args.net.now in
    let now = g.N.Net.seen joined.new.net in
    let over = subst (λ r. OnOk r (IsOver joined.result.acceptor)) c.in-Ok-ended.is joined.ensures.over in
    let all = subst (λ r. OnOk r (LosesNobody c.in-Ok.acceptor joined.result.acceptor old now))
    c.in-Ok-ended.is
    joined.ensures.serves.all in
    subst (λ s. IsServed s c.args.most old now) (sym c.served_by.ensures)
    (whole_served g.W.Slotted.fits g.W.Tenant.keeps g.P.Slotted.fits g.W.Handler.behind g.W.Handler.is_done
    g.W.Handler.is_spent g.W.Handler.is_note g.N.Net.tells
    (HasPlacesOf (tags_of c.in-Ok-open_server.server.slots))
    (view c.in-Ok-open_server.server.desk.seat).known (view c.run_event_threads-joined.result.desk.seat).known
    c.args.most c.in-Ok.acceptor joined.result.acceptor old now c.in-Ok.ensures c.requires.net
    joined.ensures.serves.goes.at_acceptor joined.ensures.serves.at_acceptor over all)

pub close_server-requires-clause-asks : goal.close_server-requires-clause-asks
close_server-requires-clause-asks g c κs within =
    let places = c.in-Ok-open_server.ensures.places in
    let opened = c.in-Ok-open_server.ensures.opened places.0 places.1 in
    subst (CanAskInServer g.W.Slotted.fits g.W.Tenant.keeps g.W.World.may_ask g.W.World.right
    g.W.World.answers
    g.P.Slotted.fits g.P.World.only_asked g.P.World.may_ask g.P.World.right g.P.World.answers)
    (sym opened.tags_are) (c.requires.others.1 places.0 places.1)

pub returns-clause-retired : goal.returns-clause-retired
returns-clause-retired g c = λ telling terms are.
    let opened = c.in-Ok-open_server.ensures.opened terms are in
    let places = subst (λ ts. HasPlacesOf ts terms) (sym opened.tags_are)
    (server_places terms c.args.others.items) in
    lacked_retired g.W.Slotted.fits g.W.Tenant.keeps g.P.Slotted.fits g.W.Handler.behind g.W.Handler.is_done
    g.W.Handler.is_spent g.W.Handler.is_note g.N.Net.tells
    (HasPlacesOf (tags_of c.in-Ok-open_server.server.slots))
    (view c.in-Ok-open_server.server.desk.seat).known (view c.run_event_threads-joined.result.desk.seat).known
    c.args.most c.in-Ok.acceptor c.run_event_threads-joined.result.acceptor (g.N.Net.seen c.args.net.now)
    (g.N.Net.seen c.run_event_threads-joined.new.net) c.in-Ok.ensures c.requires.net
    c.run_event_threads-joined.ensures.serves.goes.at_acceptor c.close_server.new.row.items
    (g.N.Net.seen c.close_server.new.net) c.close_server.ensures.balance telling terms places

pub returns-clause-sessions : goal.returns-clause-sessions
returns-clause-sessions g c = λ telling terms are.
    let opened = c.in-Ok-open_server.ensures.opened terms are in
    let places = subst (λ ts. HasPlacesOf ts terms) (sym opened.tags_are)
    (server_places terms c.args.others.items) in
    lacked_sessions g.W.Slotted.fits g.W.Tenant.keeps g.P.Slotted.fits g.W.Handler.behind g.W.Handler.is_done
    g.W.Handler.is_spent g.W.Handler.is_note g.N.Net.tells
    (HasPlacesOf (tags_of c.in-Ok-open_server.server.slots))
    (view c.in-Ok-open_server.server.desk.seat).known (view c.run_event_threads-joined.result.desk.seat).known
    c.args.most c.in-Ok.acceptor c.run_event_threads-joined.result.acceptor (g.N.Net.seen c.args.net.now)
    (g.N.Net.seen c.run_event_threads-joined.new.net) c.in-Ok.ensures c.requires.net
    c.run_event_threads-joined.ensures.serves.goes.at_acceptor c.close_server.new.row.items
    (g.N.Net.seen c.close_server.new.net) c.close_server.ensures.sessions telling terms places

pub returns-clause-served : goal.returns-clause-served
returns-clause-served g c =
    lacked_served g.W.Slotted.fits g.W.Tenant.keeps g.P.Slotted.fits g.W.Handler.behind g.W.Handler.is_done
    g.W.Handler.is_spent g.W.Handler.is_note g.N.Net.tells
    (HasPlacesOf (tags_of c.in-Ok-open_server.server.slots))
    (view c.in-Ok-open_server.server.desk.seat).known (view c.run_event_threads-joined.result.desk.seat).known
    c.args.most c.in-Ok.acceptor c.run_event_threads-joined.result.acceptor (g.N.Net.seen c.args.net.now)
    (g.N.Net.seen c.run_event_threads-joined.new.net) c.in-Ok.ensures c.requires.net
    c.run_event_threads-joined.ensures.serves.goes.at_acceptor c.close_server.new.row.items
    (g.N.Net.seen c.close_server.new.net) c.run_event_threads-joined.ensures.serves.at_acceptor
    c.close_server.ensures.net.0
    c.close_server.ensures.net.1
