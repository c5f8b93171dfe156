-- The law, by its proof.
use Rattle.ts_session.proofs.OneKept.{has_one_kept}
use Rattle.ts_session.proofs.laws.one_kept.Goals as goal

pub returns : goal.returns
returns c = has_one_kept
