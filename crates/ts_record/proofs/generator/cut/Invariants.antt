use Rattle.std.proofs.Common.{length}
use Rattle.ts_record.proofs.Generating.{IsCutTo}
use Rattle.ts_record.proofs.generator.cut.Given as goal

-- the pieces so far and those of what is left are all pieces
abbrev pub invariant-pieces : goal.invariant-pieces
invariant-pieces l = IsCutTo l.initial.draws.state l.fn.bytes l.pieces.items l.draws.state l.bytes

abbrev pub decreases-pieces : goal.decreases-pieces
decreases-pieces l = length l.bytes
