-- A journal never goes back.
use Rattle.ts_journal.proofs.Later.{never_back_lem}
use Rattle.ts_journal.proofs.laws.never_back.Goals as goal

pub returns : goal.returns
returns c = never_back_lem
