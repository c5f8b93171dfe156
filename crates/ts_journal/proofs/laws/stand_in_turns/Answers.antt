-- Each entry stands in a turn.
use Rattle.ts_journal.proofs.Facts.{stand_in_turns_lem}
use Rattle.ts_journal.proofs.laws.stand_in_turns.Goals as goal

pub returns : goal.returns
returns c = stand_in_turns_lem
