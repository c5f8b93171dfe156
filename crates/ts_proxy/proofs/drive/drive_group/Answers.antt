-- After the first turn the world is sound, and what waited for its client was written.
use Rattle.std.proofs.Common.{rules}
use Rattle.ts_proxy.proofs.Staying.{drained}
use Rattle.ts_proxy.proofs.drive.drive_group.Goals as goal

pub run_events-requires : goal.run_events-requires
run_events-requires g c =
    let begun = c.start.new.group in
    record {
      between = record {
        idle = search rules;
        sound = drained begun.world c.world_mut.result.now c.drain.new.world begun.cx.log.state.pending
            begun.cx.roles c.world_mut.ensures.value c.drain.ensures.stays
            c.in-Ok.ensures.ready.awake c.in-Ok.ensures.ready.sound;
        dry = search rules;
      };
    }
