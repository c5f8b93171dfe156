use Rattle.std.proofs.Common.{◌≡◌, ◌++◌, length}
use Rattle.ts_record.specs.Generator.{chunks_by}
use Rattle.ts_record.proofs.generator.write_chunks.Given as goal

-- what was written and the chunks of what is left are all chunks
abbrev pub invariant-chunks : goal.invariant-chunks
invariant-chunks l =
    l.out ++ chunks_by (length l.rest) l.rest ≡ l.initial.out ++ chunks_by (length l.body) l.body

abbrev pub decreases-chunks : goal.decreases-chunks
decreases-chunks l = length l.rest
