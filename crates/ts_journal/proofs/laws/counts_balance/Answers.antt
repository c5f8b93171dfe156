-- The counts of a lawful journal add up.
use Rattle.ts_journal.proofs.Facts.{counts_balance_lem}
use Rattle.ts_journal.proofs.laws.counts_balance.Goals as goal

pub returns : goal.returns
returns c = counts_balance_lem
