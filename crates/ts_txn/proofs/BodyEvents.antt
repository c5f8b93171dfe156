-- An event of a body that is passed on: where it leads the transaction, and that it pays for its events.
use Rattle.std.proofs.Common.{◌≡◌, ◌≤◌, ℕ, Option, arith, sym, subst}
use Rattle.std.specs.Arc.{arc_value}
use Rattle.ts_config.specs.declared.setup.TransformLine.{TransformLine}
use Rattle.ts_journal.specs.declared.entry.Event.{Event}
use Rattle.ts_group.specs.Calls.{IsCalled}
use Rattle.ts_group.specs.Context.{Context}
use Rattle.ts_group.specs.declared.world.Want.TheVariants as W
use Rattle.ts_link.specs.declared.link.Link as link
use Rattle.ts_upstream.specs.declared.upstream.Upstream as upstream
use Rattle.ts_transform.specs.declared.transform.Transform as transform
use Rattle.ts_transform.specs.declared.continuation.StageContinuation.{StageContinuation}
use Rattle.ts_transform.proofs.Kept.{acts_then}
use Rattle.ts_phases.specs.View.{OriginRefuses, upload_of, view_of}
use Rattle.ts_phases.specs.declared.parts.Core.{Core}
use Rattle.ts_relay.specs.Duties.{set_leaving}
use Rattle.ts_relay.specs.LoweringBody.{relay_left}
use Rattle.ts_relay.specs.Relaying.{RelayHolds, RelayLeads}
use Rattle.ts_relay.specs.StepsOwed.{BodyHandles, EventPays}
use Rattle.ts_relay.specs.declared.last_writes.BodyStep.{BodyStep}
use Rattle.ts_relay.specs.declared.relay.Relay.{Relay}
use Rattle.ts_relay.proofs.LoweringPays.{set_one}
use Rattle.ts_txn.specs.Course.{CourseHolds, course_after}
use Rattle.ts_txn.specs.Driven.{LeavesRelay}
use Rattle.ts_txn.specs.EventsOwed.{EventOwes}
use Rattle.ts_txn.specs.LoweringCourse.{PaysEvents}
use Rattle.ts_txn.specs.World.{IsSoundOn, most_set}
use Rattle.ts_txn.specs.declared.course.Course.{Course}
use Rattle.ts_txn.specs.declared.course.Course.TheVariants as K
use Rattle.ts_txn.proofs.Causes.{body_cause}
use Rattle.ts_txn.proofs.CourseCalls.{stands_handled}
use Rattle.ts_txn.proofs.Coursing.{after_led, led_on}
use Rattle.ts_txn.proofs.Handling.{little_after, sound_led}
use Rattle.ts_txn.proofs.LoweringCourse.{body_led, covered_called, lines_after}

-- what holds of the body that is passed on
pub holds_relay : {C O Q : Type 0} (client : link.Ghosts C) (origin : link.Ghosts O)
    (both : upstream.Ghosts O C) (stage : transform.Ghosts Q TransformLine) (core : Core C O)
    (course : Course Q) (r : Relay Q) → course ≡ K.Relaying r
    → CourseHolds client origin both stage core course → RelayHolds client origin both stage core r
holds_relay client origin both stage core course r is holds =
    subst (λ x. CourseHolds client origin both stage core x) is holds

-- an event of a role was handled, and the step of the body led on
module _ {C O Q : Type 0} (client : link.Ghosts C) (origin : link.Ghosts O) (both : upstream.Ghosts O C)
    (stage : transform.Ghosts Q TransformLine) (core new : Core C O) (r s : Relay Q)
    (main mid u : Option StageContinuation) (role : ℕ) (event : Event) (a m b : Context) (step : BodyStep)
    (result : Course Q)
    (called : IsCalled (λ x roles. IsSoundOn client origin both stage core main (K.Relaying r) x.pending
    x.next roles) a role event)
    (leads : RelayLeads client origin both stage core new s step)
    (handles : BodyHandles client origin both core new role event step main mid r s a m)
    (pays : EventPays client origin stage core new step main r s a m)
    (left : LeavesRelay step s result mid u m b) where
  owes_here : EventOwes client origin both stage core new a b role main u (K.Relaying r) result
      W.Nothing
  owes_here = record {
    rests = tt;
    keeps =
        let v = view_of client origin core in
        let w = view_of client origin new in
        sound_led client origin both stage core new (K.Relaying r) (course_after s step) result u b
        called.sound.stands handles.keeps
        (λ told also. led_on (arc_value core.setup) (OriginRefuses client both core) stage w s step
        (leads told also))
        (lines_after (arc_value core.setup) stage.rest step r s pays.lines called.sound.stands.lines)
        (λ told also. little_after v w step r s handles.links.minds.holds
        (called.sound.stands.little told also))
        (body_cause client origin both core new handles.keeps called.sound.stands.causes client.tells
        origin.tells r s step handles.links.client_late handles.links.origin_late
        handles.links.minds)
        (after_led step (course_after s step) result left.led)
        (left.covered w (stands_handled _ v main a role event called step w mid r s m called.sound.covered
        handles.body));
    within =
        let few : set_leaving step ≤ 1 = set_one step in
        acts_then 6 (set_leaving step) most_set (omega (arith, few)) handles.body.acts left.within;
    handles = record {
      keeps = handles.keeps;
      handles = record {
        step = step;
        after = s;
        led = left.led;
        behind = m;
        own = handles.body.own;
        first = handles.body.acts.grows;
        then = left.within;
        links = handles.links;
        due = left.due;
      };
    };
  }

  pays_here : PaysEvents client origin both stage core new (K.Relaying r) result a b
  pays_here = λ told also.
      let v = view_of client origin core in
      let w = view_of client origin new in
      body_led (arc_value core.setup) stage.rest step s result w (upload_of both new)
      a.log.state.pending m.log.state.pending b.log.state.pending
      (relay_left (arc_value core.setup) stage.rest v r)
      (after_led step (course_after s step) result left.led)
      (pays.pays told also called.sound.stands.lines
      (covered_called _ v main r a role event called called.sound.covered))
      left.within.few.pending

-- the same, said of the course on which the body is
module _ {C O Q : Type 0} (client : link.Ghosts C) (origin : link.Ghosts O) (both : upstream.Ghosts O C)
    (stage : transform.Ghosts Q TransformLine) (core new : Core C O) (course : Course Q) (r s : Relay Q)
    (is : course ≡ K.Relaying r)
    (main mid u : Option StageContinuation) (role : ℕ) (event : Event) (a m b : Context) (step : BodyStep)
    (result : Course Q)
    (called : IsCalled (λ x roles. IsSoundOn client origin both stage core main course x.pending
    x.next roles) a role event)
    (leads : RelayLeads client origin both stage core new s step)
    (handles : BodyHandles client origin both core new role event step main mid r s a m)
    (pays : EventPays client origin stage core new step main r s a m)
    (left : LeavesRelay step s result mid u m b) where
  called_here : IsCalled (λ x roles. IsSoundOn client origin both stage core main (K.Relaying r) x.pending
      x.next roles) a role event
  called_here = subst (λ y. IsCalled (λ x roles. IsSoundOn client origin both stage core main y x.pending
      x.next roles) a role event) is called

  pub relay_owes : EventOwes client origin both stage core new a b role main u course result
      W.Nothing
  relay_owes =
      subst (λ y. EventOwes client origin both stage core new a b role main u y result W.Nothing) (sym is)
      (owes_here client origin both stage core new r s main mid u role event a m b step result called_here
      leads handles pays left)

  pub relay_pays : PaysEvents client origin both stage core new course result a b
  relay_pays = subst (λ y. PaysEvents client origin both stage core new y result a b) (sym is)
      (pays_here client origin both stage core new r s main mid u role event a m b step result called_here
      leads handles pays left)
