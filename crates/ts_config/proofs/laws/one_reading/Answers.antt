-- The law of the grammar.
use Rattle.ts_config.proofs.ValueReads.{reading_is}
use Rattle.ts_config.proofs.laws.one_reading.Goals as goal

pub returns : goal.returns
returns c = λ bytes reading. reading_is bytes reading
