-- A client that was polled is that of each tag of which it was.
use Rattle.std.proofs.Common.{refl}
use Rattle.ts_waiting.proofs.Waits.{polled_of}
use Rattle.ts_waiting.proofs.world.WaitingWorld.handle.Goals as goal

pub returns-clause-promises : goal.returns-clause-promises
returns-clause-promises g c =
    polled_of g.C.Link g.met.C.Link.still_on c.args.self.now _ (record {
      left = refl;
      span = c.poll_once-self.ensures.same;
      polls = c.poll_once-self.ensures.polls;
    })
