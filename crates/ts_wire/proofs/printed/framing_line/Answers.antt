use Rattle.ts_wire.proofs.ShortLines.{framing_short}
use Rattle.ts_wire.proofs.printed.framing_line.Goals as goal

pub returns-clause-short : goal.returns-clause-short
returns-clause-short c = framing_short c.args.framing
