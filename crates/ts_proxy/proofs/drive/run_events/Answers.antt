-- The journal goes on by a turn of the serial driver at each event.
use Rattle.std.proofs.Common.{rules, ap, ◌∙◌}
use Rattle.ts_proxy.specs.Sending.{to_come}
use Rattle.ts_proxy.proofs.Staying.{drained, passes_then}
use Rattle.ts_proxy.specs.Journals.{first_moment}
use Rattle.ts_proxy.proofs.Serial.{to_none, to_trans}
use Rattle.ts_proxy.proofs.drive.run_events.Goals as goal

pub driving-init : goal.driving-init
driving-init g c = record {
  passes = search rules;
  faults = search rules;
  idle = c.requires.between.idle;
  serial = to_none first_moment c.args.group.now.cx.log;
  sound = c.requires.between.sound;
  dry = c.requires.between.dry;
}

pub driving-preserved : goal.driving-preserved
driving-preserved g c =
    let before = c.driving in
    let handled = c.drive_turn.new.group in
    record {
      passes = λ tells. passes_then _ _ _ _ _ _ _ (before.invariant.passes tells)
          (ap (λ w. to_come g.P.Transform.rest w) c.world_mut.ensures.value ∙ c.in-Ok.ensures.flow)
          (c.drain.ensures.told tells);
      faults = search rules;
      idle = search rules;
      serial = to_trans first_moment before.moment _ c.args.group.now.cx.log before.group.cx.log
          handled.cx.log before.invariant.serial before.invariant.idle
          (c.in-Ok.ensures.serial before.moment (search rules));
      sound = drained handled.world c.world_mut.result.now c.drain.new.world handled.cx.log.state.pending
          handled.cx.roles c.world_mut.ensures.value c.drain.ensures.stays
          c.in-Ok.ensures.ready.awake c.in-Ok.ensures.ready.sound;
      dry = search rules;
    }
