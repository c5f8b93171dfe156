-- Where no line ends a head, none is there.
use Rattle.ts_phases.proofs.Places.{request_waits}
use Rattle.ts_phases.proofs.head.RequestHeadHead.waits.Goals as goal

pub returns : goal.returns
returns c = request_waits c.args.bytes.now c.requires
