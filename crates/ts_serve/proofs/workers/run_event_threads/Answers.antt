-- One thread has no other beside it.
use Rattle.std.proofs.Common.{◌≡◌, arith}
use Rattle.ts_group.specs.Either.{EitherAnswers, EitherAsking, EitherCalled, EitherFits, EitherHeard}
use Rattle.ts_group.specs.Either.{either_left}
use Rattle.ts_lists.proofs.Results.{on_ok_any}
use Rattle.ts_slot.specs.Words.{tags_of}
use Rattle.ts_serve.specs.Places.{PlaceAnswers, PlaceAsking, PlaceCalled, PlaceFits, PlaceHeard, place_left}
use Rattle.ts_serve.proofs.Splits.{whole_alone}
use Rattle.ts_serve.proofs.workers.run_event_threads.Goals as goal

pub returns-then-threads-eq1-clause-helped : goal.returns-then-threads-eq1-clause-helped
returns-then-threads-eq1-clause-helped g c =
    let one = c.if-threads-eq1.true in
    let is : c.args.threads ≡ 1 = omega arith in
    on_ok_any c.serve_alone.result.ended
    (whole_alone (EitherFits (PlaceFits g.W.Slotted.fits g.W.Tenant.keeps) g.P.Slotted.fits)
    (EitherAsking (PlaceAsking g.W.World.asking) g.P.World.asking)
    (EitherAnswers (PlaceAnswers g.W.World.answers) g.P.World.answers)
    (EitherCalled (PlaceCalled g.W.World.called) g.P.World.called)
    (EitherHeard (PlaceHeard g.W.World.heard) g.P.World.heard)
    (either_left (place_left g.W.World.left) g.P.World.left)
    (tags_of c.args.service.now.shared.slots.now) c.args.threads is c.args.desk c.serve_alone.result.desk)
