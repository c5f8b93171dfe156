-- A key that was destroyed is never live again.
use Rattle.ts_journal.proofs.Facts.{never_again_lem}
use Rattle.ts_journal.proofs.laws.never_again.Goals as goal

pub returns : goal.returns
returns c = never_again_lem
