-- What the configuration means is computed.
use Rattle.ts_proxy.proofs.Fixed.{fixed_reading}
use Rattle.ts_proxy.proofs.laws.fixed_reading.Goals as goal

pub returns : goal.returns
returns c = fixed_reading
