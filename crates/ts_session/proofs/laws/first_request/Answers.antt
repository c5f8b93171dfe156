-- The law, by its proof.
use Rattle.ts_session.proofs.FirstRequest.{finds_first}
use Rattle.ts_session.proofs.laws.first_request.Goals as goal

pub returns : goal.returns
returns c = finds_first
