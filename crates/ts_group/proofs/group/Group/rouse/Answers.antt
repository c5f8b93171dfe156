-- The world's own entries stay in the turn.
use Rattle.ts_group.proofs.Runs.{grows_stays}
use Rattle.ts_group.proofs.group.Group.rouse.Goals as goal

pub returns-clause-turn : goal.returns-clause-turn
returns-clause-turn g c = grows_stays c.rouse.ensures.grows c.requires.turn
