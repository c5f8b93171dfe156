-- One of the last writes: where it leads, and that it pays for its events.
use Rattle.std.specs.Arc.{arc_value}
use Rattle.std.proofs.Common.{arith, inr}
use Rattle.ts_transform.proofs.Kept.{acts_none, acts_then}
use Rattle.ts_txn.specs.Course.{finish_after}
use Rattle.ts_phases.specs.View.{OriginRefuses, upload_of, view_of}
use Rattle.ts_txn.specs.World.{most_set}
use Rattle.ts_txn.specs.declared.course.Course.TheVariants as K
use Rattle.ts_txn.proofs.Causes.{write_cause}
use Rattle.ts_txn.proofs.Coursing.{led_last}
use Rattle.ts_txn.proofs.Handling.{little_last, sound_led}
use Rattle.ts_txn.proofs.LoweringCourse.{finish_led, lines_last}
use Rattle.ts_txn.proofs.course.write_rest.Goals as goal

pub returns-clause-owes : goal.returns-clause-owes
returns-clause-owes g c = record {
  keeps =
      let core = c.args.core.now in
      let new = c.send_rest-step.new.core in
      let v = view_of g.C.Link g.O.Link new in
      sound_led g.C.Link g.O.Link g.O.Upstream g.P.Transform core new (K.Finishing c.args.end)
      (finish_after c.args.end c.send_rest-step.result) c.after_write.result c.after_write.new.main
      c.after_write.new.cx c.requires.stands c.send_rest-step.ensures.keeps
      (λ told also. led_last (arc_value core.setup) (OriginRefuses g.C.Link g.O.Upstream core)
      g.P.Transform v c.args.end c.send_rest-step.result
      (c.send_rest-step.ensures.leads told also))
      (lines_last (arc_value core.setup) g.P.Transform.rest c.args.end c.send_rest-step.result)
      (λ told also. little_last _ v c.args.end c.send_rest-step.result)
      (write_cause g.C.Link g.O.Link g.O.Upstream core new c.send_rest-step.ensures.keeps
      c.requires.stands.causes.0 _ g.C.Link.tells c.args.end c.send_rest-step.result c.requires.stands.causes.1
      c.send_rest-step.ensures.links) c.after_write.ensures.course
      (c.after_write.ensures.covered c.requires.alone v);
  rests = tt;
  within =
      acts_then 0 1 most_set (omega arith) (acts_none 0 c.args.cx.now c.requires.turn)
      c.after_write.ensures.within;
  handles = record {
    keeps = c.send_rest-step.ensures.keeps;
    handles = record {
      step = c.send_rest-step.result;
      takes = inr (record { led = c.after_write.ensures.course; rest = c.send_rest-step.ensures.links });
      due = c.after_write.ensures.due;
    };
  };
}

pub returns-clause-pays : goal.returns-clause-pays
returns-clause-pays g c = λ told also.
    let core = c.args.core.now in
    let new = c.send_rest-step.new.core in
    finish_led (arc_value core.setup) g.P.Transform.rest c.args.end c.send_rest-step.result
    c.after_write.result (view_of g.C.Link g.O.Link core)
    (view_of g.C.Link g.O.Link new) (upload_of g.O.Upstream new) c.args.cx.now.log.state.pending
    c.after_write.new.cx.log.state.pending
    c.after_write.ensures.course (c.send_rest-step.ensures.falls told also)
    c.after_write.ensures.within.few.pending
