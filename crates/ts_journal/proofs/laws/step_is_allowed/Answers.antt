-- The machine takes exactly the allowed entries.
use Rattle.ts_journal.proofs.Steps.{step_is_allowed_lem}
use Rattle.ts_journal.proofs.laws.step_is_allowed.Goals as goal

pub returns : goal.returns
returns c = step_is_allowed_lem
