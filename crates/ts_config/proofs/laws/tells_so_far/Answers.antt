-- What lines have given of a body that came so far.
use Rattle.ts_config.proofs.Early.{tells}
use Rattle.ts_config.proofs.laws.tells_so_far.Goals as goal

pub returns : goal.returns
returns c = λ ls x. tells ls x
