-- A group is sound as it is started, and so it is then.
use Rattle.ts_mishap_tests.proofs.exchange.started.Goals as goal

pub start-requires-clause-sound : goal.start-requires-clause-sound
start-requires-clause-sound g c = c.begin_turn.ensures.sound c.requires.sound

pub returns : goal.returns
returns g c = record {
  begun = c.begin_turn.new.self;
  started = c.start.new.self;
  begins = c.in_ok-begin_turn.ensures.begins;
  same = c.begin_turn.ensures.world;
  grows = c.start.ensures.grows;
  turn = c.start.ensures.turn;
  first = c.start.ensures.begun;
  few = c.start.ensures.few;
  gives = c.give_turn.ensures.gives;
  left = c.give_turn.ensures.world;
  sound = c.give_turn.ensures.sound c.start.ensures.sound;
}
