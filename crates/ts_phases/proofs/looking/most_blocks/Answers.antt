-- None of the blocks is empty.
use Rattle.std.proofs.Common.{arith, ap, length}
use Rattle.ts_iobuf.specs.Buffer.{blocks_of}
use Rattle.ts_phases.proofs.Looked.{few_blocks}
use Rattle.ts_phases.proofs.looking.most_blocks.Goals as goal

pub returns-clause-most : goal.returns-clause-most
returns-clause-most c =
    omega (
      arith,
      few_blocks (blocks_of c.args.buffer.now c.args.reader) c.block-first.ensures.full,
      ap length c.block-first.ensures.joined,
      c.avail.ensures,
    )
