-- The machine runs exactly the lawful journals.
use Rattle.ts_journal.proofs.Steps.{run_is_lawful_lem}
use Rattle.ts_journal.proofs.laws.run_is_lawful.Goals as goal

pub returns : goal.returns
returns c = run_is_lawful_lem
