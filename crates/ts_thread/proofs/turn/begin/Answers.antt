-- A turn that was begun, in which the world is as it was.
use Rattle.ts_thread.proofs.Groups.{has_begun, ok_to}
use Rattle.ts_thread.proofs.turn.begin.Goals as goal

pub returns-clause-begun : goal.returns-clause-begun
returns-clause-begun g c =
    let begun = c.begin_turn.ensures in
    ok_to c.begin_turn.result
    (λ begins. has_begun g.W.Slotted.fits c.args.group.now c.begin_turn.new.self c.args.turn c.args.seat
    c.args.moment c.known.ensures.valid begins begun.kept begun.world)
    begun.begins
