-- The law, by its proof.
use Rattle.ts_history.proofs.Requests.{have_requests}
use Rattle.ts_history.proofs.laws.have_requests.Goals as goal

pub returns : goal.returns
returns c = have_requests
