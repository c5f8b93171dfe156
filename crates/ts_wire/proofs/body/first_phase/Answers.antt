use Rattle.std.proofs.Common.{arith}
use Rattle.ts_wire.proofs.BodyLemmas.{no_line_yet}
use Rattle.ts_wire.proofs.body.first_phase.Goals as goal

pub returns-in-Chunked-clause-sound : goal.returns-in-Chunked-clause-sound
returns-in-Chunked-clause-sound c = (omega arith, omega arith, no_line_yet)
