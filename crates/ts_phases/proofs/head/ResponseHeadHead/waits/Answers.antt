-- Where no line ends a head, none is there.
use Rattle.ts_phases.proofs.Places.{response_waits}
use Rattle.ts_phases.proofs.head.ResponseHeadHead.waits.Goals as goal

pub returns : goal.returns
returns c = response_waits c.args.bytes.now c.requires
