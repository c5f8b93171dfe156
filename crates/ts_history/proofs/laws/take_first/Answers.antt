-- The law, by its proof.
use Rattle.ts_history.proofs.Requests.{take_first}
use Rattle.ts_history.proofs.laws.take_first.Goals as goal

pub returns : goal.returns
returns c = take_first
