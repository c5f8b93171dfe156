use Rattle.std.proofs.Common.{◌≡◌, [], true, false}
use Rattle.ts_transform.specs.World.{IsSound}
use Rattle.ts_proxy.specs.Sending.{Passes, for_client, left_in, to_come}
use Rattle.ts_proxy.specs.Journals.{first_moment, GoesOnTo}
use Rattle.ts_proxy.proofs.drive.run_events.Given as goal

-- what was taken and what still flows is what flowed, nothing failed, the journal went on by turns of the
-- serial driver, which is at this moment, and nothing waits for the client between two turns
abbrev pub invariant-driving : goal.invariant-driving
invariant-driving g l =
    let world = l.group.world in
    record {
      passes : g.K.Sink.tells ≡ true
          → Passes (g.K.Sink.seen l.initial.out) (g.K.Sink.seen l.out)
          (to_come g.P.Transform.rest l.initial.group.world) (to_come g.P.Transform.rest world);
      faults : (g.K.Sink.seen l.out).faults ≡ (g.K.Sink.seen l.initial.out).faults;
      idle : l.group.cx.log.state.held ≡ false;
      serial : GoesOnTo first_moment l.moment l.initial.group.cx.log l.group.cx.log;
      sound : IsSound world l.group.cx.log.state.pending l.group.cx.roles;
      dry : for_client world ≡ [];
    }

-- each event that is handled, and each byte that is taken, leaves less to do
abbrev pub decreases-driving : goal.decreases-driving
decreases-driving g l = left_in g.P.Transform.rest l.group
