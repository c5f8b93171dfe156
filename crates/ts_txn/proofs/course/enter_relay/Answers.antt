-- A body begins, or memory lacks for its head: where that leads, and that it pays for its events.
use Rattle.std.specs.Arc.{arc_value}
use Rattle.std.specs.Prelude.{◌+◌, ◌∷◌, [], length}
use Rattle.std.proofs.Common.{arith, refl, sym, ap, subst, ◌≤◌}
use Rattle.ts_hooks.specs.declared.txn_end.TxnEnd.TheVariants as E
use Rattle.ts_transform.proofs.Kept.{acts_none, acts_then}
use Rattle.ts_transform.proofs.Seats.{cleared_acts}
use Rattle.ts_txn.specs.Course.{course_after}
use Rattle.ts_relay.specs.Duties.{set_by_beginning, set_leaving}
use Rattle.ts_link.specs.Link.{Look, NoMore}
use Rattle.ts_relay.specs.LoweringBody.{IsOfLines, left_after, unbegun_left}
use Rattle.ts_phases.specs.Lowering.{work_left}
use Rattle.ts_phases.specs.View.{LinkSide, OriginRefuses, upload_of, view_of}
use Rattle.ts_txn.specs.World.{most_set}
use Rattle.ts_txn.specs.declared.course.Course.TheVariants as K
use Rattle.ts_phases.specs.declared.phase.Phase.TheVariants as P
use Rattle.ts_phases.specs.declared.phase.Next.TheVariants as N
use Rattle.ts_txn.proofs.Causes.{begun_cause, enters_cause}
use Rattle.ts_txn.proofs.CourseCalls.{stands_begun}
use Rattle.ts_txn.proofs.CourseSeats.{ended_alone}
use Rattle.ts_txn.proofs.Coursing.{after_led, course_settled, enters_settled, led_on, stays_on}
use Rattle.ts_txn.proofs.Events.{begin_led, due_begin, takes_begin, takes_lost}
use Rattle.ts_txn.proofs.Handling.{little_begun, little_stay, sound_here}
use Rattle.ts_txn.proofs.LoweringCourse.{begin_within, begun_led, few_stages, lines_after, lines_stay}
use Rattle.ts_txn.proofs.LoweringCourse.{not_begun}
use Rattle.ts_relay.proofs.LoweringPays.{set_one}
use Rattle.ts_txn.proofs.course.enter_relay.Goals as goal

-- Memory lacked for the head.
pub returns-in_default-clause-owes : goal.returns-in_default-clause-owes
returns-in_default-clause-owes g c = λ phase enters. record {
  keeps =
      let core = c.args.core.now in
      let new = c.queue_relay.new.core in
      sound_here g.C.Link g.O.Link g.O.Upstream g.P.Transform core new
      (K.Phased (P.ResponseTransform c.args.request c.args.head)) (K.Phased (P.Ended E.NoMemory))
      c.destroy_end.new.slot c.destroy_end.new.cx c.requires.stands c.queue_relay.ensures.keeps
      (λ told also. course_settled g.C.Link g.O.Link g.O.Upstream g.P.Transform core new
      (K.Phased (P.Ended E.NoMemory)) c.queue_relay.ensures.keeps
      (c.in_default.ensures.err told also)) tt (λ told also. tt)
      (record {
        counts = enters_cause g.C.Link g.O.Link g.O.Upstream core new c.queue_relay.ensures.keeps
            c.requires.stands.causes.counts c.queue_relay.ensures.quiet;
        ends = tt;
      })
      (ended_alone (P.Ended E.NoMemory) (K.Phased (P.Ended E.NoMemory)) c.args.main.now c.destroy_end.new.slot
      c.args.cx.now c.destroy_end.new.cx refl refl c.destroy_end.ensures.clears
      c.destroy_end.ensures.none c.requires.alone (view_of g.C.Link g.O.Link new));
  rests = tt;
  within =
      acts_then 0 0 most_set (omega arith) (acts_none 0 c.args.cx.now c.requires.turn)
      (cleared_acts (c.args.main.now ∷ []) c.args.cx.now c.destroy_end.new.cx
      c.destroy_end.ensures.clears);
  handles =
      let core = c.args.core.now in
      let new = c.queue_relay.new.core in
      record {
        keeps = c.queue_relay.ensures.keeps;
        handles = record {
          next = N.Go;
          takes = takes_lost g.C.Link g.O.Link g.O.Upstream core new phase c.args.request c.args.head enters
              c.queue_relay.ensures.quiet;
          due = λ n p none there. absurd (c.destroy_end.ensures.clears.lessens.none n p none there);
        };
      };
}

pub begin_body-step-requires-clause-fact : goal.begin_body-step-requires-clause-fact
begin_body-step-requires-clause-fact g c = λ told also.
    enters_settled g.C.Link g.O.Link g.O.Upstream g.P.Transform
    c.args.core.now c.queue_relay.new.core c.in-Ok.made.driven.chain c.in-Ok.made.body
    c.queue_relay.ensures.keeps (c.in-Ok.ensures.ok told also)

pub returns-clause-owes : goal.returns-clause-owes
returns-clause-owes g c = λ phase enters. record {
  keeps =
      let core = c.args.core.now in
      let new = c.queue_relay.new.core in
      let relay = c.begin_body-step.new.relay in
      let step = c.begin_body-step.result in
      let v = view_of g.C.Link g.O.Link new in
      sound_here g.C.Link g.O.Link g.O.Upstream g.P.Transform core new
      (K.Phased (P.ResponseTransform c.args.request c.args.head)) c.leave_body.result c.leave_body.new.main
      c.leave_body.new.cx c.requires.stands c.queue_relay.ensures.keeps
      (λ told also. stays_on (arc_value new.setup) (OriginRefuses g.C.Link g.O.Upstream new)
      g.P.Transform v (course_after relay step) c.leave_body.result
      (led_on (arc_value new.setup) (OriginRefuses g.C.Link g.O.Upstream new) g.P.Transform v
      relay step (c.begin_body-step.ensures.leads told also))
      (after_led step (course_after relay step) c.leave_body.result c.leave_body.ensures.course))
      (lines_stay (arc_value new.setup) g.P.Transform.rest (course_after relay step) c.leave_body.result
      (lines_after (arc_value new.setup) g.P.Transform.rest step c.in-Ok.made relay
      c.begin_body-step.ensures.lowers.lines
      (subst (λ x. IsOfLines (arc_value x) g.P.Transform.rest c.in-Ok.made.driven.chain)
      (sym c.queue_relay.ensures.keeps.setup) c.in-Ok.ensures.lowers.lines))
      (after_led step (course_after relay step) c.leave_body.result c.leave_body.ensures.course))
      (λ told also. little_stay v (course_after relay step) c.leave_body.result
      (little_begun v step c.in-Ok.made relay c.begin_body-step.ensures.lowers.first
      (c.in-Ok.ensures.lowers.little told also))
      (after_led step (course_after relay step) c.leave_body.result c.leave_body.ensures.course))
      (begun_cause g.C.Link g.O.Link g.O.Upstream core new c.queue_relay.ensures.keeps
      c.requires.stands.causes.counts relay c.leave_body.result c.queue_relay.ensures.quiet
      (begin_led g.C.Link g.O.Link g.O.Upstream relay step c.leave_body.result
      c.begin_body-step.ensures.begins.goes c.leave_body.ensures.course))
      (c.leave_body.ensures.covered v
      (stands_begun step v c.args.main.now c.begin_body-step.new.main relay c.args.cx.now
      c.begin_body-step.new.cx c.known.ensures c.begin_body-step.ensures.begins c.requires.alone));
  rests = tt;
  within =
      let step = c.begin_body-step.result in
      let few : set_leaving step ≤ 1 = set_one step in
      let stages = length c.in-Ok.made.driven.chain.stages in
      let within : set_by_beginning stages + set_leaving step ≤ most_set =
      begin_within stages (set_leaving step)
      (few_stages c.in-Ok.ensures.lowers.lines.few c.requires.stands.setup.few.transforms) few in
      acts_then (set_by_beginning stages) (set_leaving step) most_set within
      c.begin_body-step.ensures.begins.acts c.leave_body.ensures.within;
  handles =
      let core = c.args.core.now in
      let new = c.queue_relay.new.core in
      let relay = c.begin_body-step.new.relay in
      let v = view_of g.C.Link g.O.Link new in
      let led = begin_led g.C.Link g.O.Link g.O.Upstream relay c.begin_body-step.result c.leave_body.result
      c.begin_body-step.ensures.begins.goes c.leave_body.ensures.course in
      record {
        keeps = c.queue_relay.ensures.keeps;
        handles = record {
          next = N.Go;
          takes = takes_begin g.C.Link g.O.Link g.O.Upstream core new phase c.args.request c.args.head
              c.leave_body.result relay enters c.queue_relay.ensures.quiet led;
          due = due_begin g.C.Link g.O.Link g.O.Upstream c.args.main.now v c.leave_body.new.main
              c.args.cx.now
              c.begin_body-step.new.cx c.leave_body.new.cx c.begin_body-step.result relay c.leave_body.result
              c.begin_body-step.ensures.begins.goes c.leave_body.ensures.course
              c.begin_body-step.ensures.begins.acts.grows c.begin_body-step.ensures.due
              c.leave_body.ensures.within
              (c.leave_body.ensures.covered v
              (stands_begun c.begin_body-step.result v c.args.main.now c.begin_body-step.new.main relay
              c.args.cx.now c.begin_body-step.new.cx c.known.ensures c.begin_body-step.ensures.begins
              c.requires.alone));
        };
      };
}

pub returns-in_default-clause-pays : goal.returns-in_default-clause-pays
returns-in_default-clause-pays g c = λ phase kept told also.
    let core = c.args.core.now in
    let new = c.queue_relay.new.core in
    let few = c.destroy_end.ensures.clears.lessens.few.pending in
    not_begun (arc_value core.setup) g.P.Transform.rest
    (work_left (arc_value core.setup) (upload_of g.O.Upstream core) (view_of g.C.Link g.O.Link core) phase)
    (view_of g.C.Link g.O.Link core) (view_of g.C.Link g.O.Link new) kept (upload_of g.O.Upstream new)
    c.args.cx.now.log.state.pending c.destroy_end.new.cx.log.state.pending
    (ap (λ (l : Look). l.agains) c.queue_relay.ensures.quiet.client)
    (ap (λ (s : LinkSide). s.look.agains) c.queue_relay.ensures.quiet.origin)
    (omega (arith, few))

pub returns-clause-pays : goal.returns-clause-pays
returns-clause-pays g c = λ phase kept told also.
    let core = c.args.core.now in
    let new = c.queue_relay.new.core in
    let made = c.in-Ok.made in
    let relay = c.begin_body-step.new.relay in
    let step = c.begin_body-step.result in
    let w = view_of g.C.Link g.O.Link new in
    let stays = subst (λ x. NoMore (unbegun_left (arc_value x) g.P.Transform.rest w made)
    (left_after (arc_value x) g.P.Transform.rest step w relay)) c.queue_relay.ensures.keeps.setup
    c.begin_body-step.ensures.lowers.falls in
    begun_led (arc_value core.setup) g.P.Transform.rest
    (work_left (arc_value core.setup) (upload_of g.O.Upstream core) (view_of g.C.Link g.O.Link core) phase)
    (view_of g.C.Link g.O.Link core) w kept step made relay c.leave_body.result (upload_of g.O.Upstream new)
    c.args.cx.now.log.state.pending
    c.begin_body-step.new.cx.log.state.pending c.leave_body.new.cx.log.state.pending
    (length made.driven.chain.stages) (c.in-Ok.ensures.lowers.falls told also) stays
    c.begin_body-step.ensures.begins.acts.few.pending
    (few_stages c.in-Ok.ensures.lowers.lines.few c.requires.stands.setup.few.transforms)
    (after_led step (course_after relay step) c.leave_body.result c.leave_body.ensures.course)
    c.leave_body.ensures.within.few.pending
