-- The numbers that are set rise.
use Rattle.ts_journal.proofs.Facts.{numbers_rise_lem}
use Rattle.ts_journal.proofs.laws.numbers_rise.Goals as goal

pub returns : goal.returns
returns c = numbers_rise_lem
