-- The world is sound as it is started, and as it is driven.
use Rattle.ts_request_tests.proofs.layered.run.Goals as goal

pub start-requires-clause-sound : goal.start-requires-clause-sound
start-requires-clause-sound g c = c.begin_alone.ensures.sound c.requires.sound

pub drive-requires-clause-sound : goal.drive-requires-clause-sound
drive-requires-clause-sound g c = c.give_turn.ensures.sound c.start.ensures.sound
