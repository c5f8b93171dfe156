-- An event is closed at most once, and only after it was set.
use Rattle.ts_journal.proofs.Facts.{closed_once_lem}
use Rattle.ts_journal.proofs.laws.closed_once.Goals as goal

pub returns : goal.returns
returns c = closed_once_lem
