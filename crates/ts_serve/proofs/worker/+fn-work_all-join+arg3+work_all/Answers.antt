-- The desk that was split, each part with some turns more, is joined again, and each part tells of its turns.
use Rattle.std.proofs.Common.{arith}
use Rattle.ts_slot.specs.Words.{tags_of}
use Rattle.ts_serve.proofs.Splits.{joined_some, none_splits, one_more_works}
use Rattle.ts_serve.proofs.worker.+fn-work_all-join+arg3+work_all.Goals as goal

pub returns-in_default-clause-tells : goal.returns-in_default-clause-tells
returns-in_default-clause-tells g t c =
    let some = c.requires.works.0.some in
    let many = c.if-threads-eq1.false in
    none_splits g.W.Slotted.fits g.W.World.asking g.W.World.answers g.W.World.called g.W.World.heard
    g.W.World.left (tags_of c.args.service.now.shared.slots.now) c.args.threads (omega arith) c.args.desk
    c.split.new.self c.in_default.ensures.err

pub returns-clause-worked : goal.returns-clause-worked
returns-clause-worked g t c = record {
  ready = c.join.ensures.desk;
  keeps = joined_some c.args.service.now.shared.slots.now c.args.service.now.shared.queue.now c.args.threads
      c.args.desk c.split.new.self c.in-Ok.other c.join-one.result.1.desk c.join-one.result.0.desk
      c.join.new.self c.requires.works.0 c.in-Ok.ensures.ok c.join-one.ensures.second.0.keeps
      c.join-one.ensures.first.0.keeps c.join.ensures.joins;
}

pub returns-clause-tells : goal.returns-clause-tells
returns-clause-tells g t c =
    let some = c.requires.works.0.some in
    let many = c.if-threads-eq1.false in
    one_more_works g.W.Slotted.fits g.W.World.asking g.W.World.answers g.W.World.called g.W.World.heard
    g.W.World.left (tags_of c.args.service.now.shared.slots.now) c.args.threads (omega arith)
    c.join-one.result.0.whole c.join-one.result.1.whole c.args.desk c.split.new.self c.join-one.result.1.desk
    c.in-Ok.other c.join-one.result.0.desk c.join.new.self c.in-Ok.ensures.ok c.join-one.ensures.first.1
    c.join-one.ensures.second.1 c.join.ensures.joins
