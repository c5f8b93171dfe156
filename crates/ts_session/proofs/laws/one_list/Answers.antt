-- The law, by its proof.
use Rattle.ts_session.proofs.OneList.{has_one_list}
use Rattle.ts_session.proofs.laws.one_list.Goals as goal

pub returns : goal.returns
returns c = has_one_list
