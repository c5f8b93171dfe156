-- The group is as it was, but for its turn.
use Rattle.ts_thread.proofs.Groups.{gives_back}
use Rattle.ts_thread.proofs.turn.give.Goals as goal

pub returns-clause-gives : goal.returns-clause-gives
returns-clause-gives g c = gives_back c.args.group.now c.give_turn.new.self c.known.ensures.valid
    c.give_turn.ensures.gives c.give_turn.ensures.kept c.give_turn.ensures.world
