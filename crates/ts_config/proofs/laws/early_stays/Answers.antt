-- Lines that finished early make the same of each longer body.
use Rattle.ts_config.proofs.Early.{early_final}
use Rattle.ts_config.proofs.laws.early_stays.Goals as goal

pub returns : goal.returns
returns c = λ ls x z early. early_final ls x z early
