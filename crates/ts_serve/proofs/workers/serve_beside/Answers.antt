-- The desk was split between the first thread and those that work beside it, and joined again.
use Rattle.std.proofs.Common.{subst, rules}
use Rattle.std.specs.Prelude.{OnOk}
use Rattle.std.proofs.lemmas.Result.{on_ok_weaker}
use Rattle.ts_group.specs.Either.{EitherAnswers, EitherAsking, EitherCalled, EitherFits, EitherHeard}
use Rattle.ts_group.specs.Either.{either_left}
use Rattle.ts_slot.specs.Words.{tags_of}
use Rattle.ts_serve.specs.Acceptor.{IsOver, LosesNobody, Serves}
use Rattle.ts_serve.specs.Places.{PlaceAnswers, PlaceAsking, PlaceCalled, PlaceFits, PlaceHeard, place_left}
use Rattle.ts_serve.proofs.Splits.{goes_joined, serves_split, whole_beside}
use Rattle.ts_serve.proofs.workers.serve_beside.Goals as goal

pub returns-in_default-clause-serves : goal.returns-in_default-clause-serves
returns-in_default-clause-serves g c = serves_split c.args.service.now.shared.slots.now c.args.service.now.shared.queue.now c.args.desk c.split.new.self
    c.args.acceptor (g.N.ClientSource.seen c.args.net.now) _ c.split.ensures.desk c.requires.acceptor
    c.in_default.ensures.err

pub returns-clause-serves : goal.returns-clause-serves
returns-clause-serves g c =
    let both = c.run_beside-worked.result in
    let joined = both.1.1 in
    let slots = c.args.service.now.shared.slots.now in
    let served = c.run_beside-worked.ensures.2.1 in
    let before = g.N.ClientSource.seen c.args.net.now in
    let after = g.N.ClientSource.seen both.1.0.now in
    subst (λ (net : g.row.N.Denot). Serves g.W.Slotted.fits g.W.Tenant.keeps g.P.Slotted.fits g.W.Handler.behind g.W.Handler.is_done
    g.W.Handler.is_spent g.W.Handler.is_note g.N.ClientSource.tells slots
    c.args.service.now.shared.queue.now c.ended_whole.result c.args.desk c.join.new.self c.args.acceptor
    joined.acceptor before (g.N.ClientSource.seen net))
    (search rules)
    (record {
      at_desk = c.join.ensures.desk;
      at_acceptor = served.at_acceptor;
      goes = goes_joined slots c.args.service.now.shared.queue.now c.args.threads c.args.desk c.split.new.self c.in-Ok.first
          both.0.desk joined.desk c.join.new.self c.args.acceptor joined.acceptor before after
          c.requires.works.0 c.in-Ok.ensures.ok c.run_beside-worked.ensures.0.keeps served.goes
          c.join.ensures.joins;
      all = on_ok_weaker c.ended_whole.result
          (λ is. subst (λ r. OnOk r (LosesNobody c.args.acceptor joined.acceptor before after)) is.0
          served.all)
          c.ended_whole.ensures;
    })

pub returns-clause-over : goal.returns-clause-over
returns-clause-over g c =
    let joined = c.run_beside-worked.result.1.1 in
    on_ok_weaker c.ended_whole.result
    (λ is. subst (λ r. OnOk r (IsOver joined.acceptor)) is.0 c.run_beside-worked.ensures.2.2)
    c.ended_whole.ensures

pub returns-clause-helped : goal.returns-clause-helped
returns-clause-helped g c =
    let both = c.run_beside-worked.result in
    let many = c.requires.works.1 in
    on_ok_weaker c.ended_whole.result
    (λ is. whole_beside (EitherFits (PlaceFits g.W.Slotted.fits g.W.Tenant.keeps) g.P.Slotted.fits)
    (EitherAsking (PlaceAsking g.W.World.asking) g.P.World.asking)
    (EitherAnswers (PlaceAnswers g.W.World.answers) g.P.World.answers)
    (EitherCalled (PlaceCalled g.W.World.called) g.P.World.called)
    (EitherHeard (PlaceHeard g.W.World.heard) g.P.World.heard)
    (either_left (place_left g.W.World.left) g.P.World.left)
    (tags_of c.args.service.now.shared.slots.now) c.args.threads many both.0.whole is.1 c.args.desk
    c.split.new.self both.0.desk c.in-Ok.first both.1.1.desk c.join.new.self c.in-Ok.ensures.ok
    c.run_beside-worked.ensures.1 c.run_beside-worked.ensures.2.1.goes.at_desk c.join.ensures.joins)
    c.ended_whole.ensures
