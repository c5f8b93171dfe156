-- An event is handled only while its key is live.
use Rattle.ts_journal.proofs.Facts.{handled_live_lem}
use Rattle.ts_journal.proofs.laws.handled_live.Goals as goal

pub returns : goal.returns
returns c = handled_live_lem
