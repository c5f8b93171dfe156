-- What was set before the base and is not pending there is never closed again.
use Rattle.ts_journal.proofs.Facts.{closed_for_good_lem}
use Rattle.ts_journal.proofs.laws.closed_for_good.Goals as goal

pub returns : goal.returns
returns c = closed_for_good_lem
