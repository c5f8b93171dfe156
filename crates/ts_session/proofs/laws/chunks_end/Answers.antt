-- The law, by its proof.
use Rattle.ts_session.proofs.ChunksEnd.{finds_chunks_end}
use Rattle.ts_session.proofs.laws.chunks_end.Goals as goal

pub returns : goal.returns
returns c = finds_chunks_end
