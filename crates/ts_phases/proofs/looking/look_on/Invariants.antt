-- With what is left of the bytes behind the blocks that were passed the place is that behind all of them.
use Rattle.std.proofs.Common.{◌≡◌, drop, fold}
use Rattle.ts_iobuf.specs.Buffer.{blocks_of, readable}
use Rattle.ts_phases.specs.Place.{place_next, place_of}
use Rattle.ts_phases.proofs.Looked.{behind_blocks}
use Rattle.ts_phases.proofs.looking.look_on.Given as goal

abbrev pub invariant-loop-k : goal.invariant-loop-k
invariant-loop-k g l =
    fold place_next l.ahead.place
    (drop l.left (behind_blocks l.k (blocks_of l.buffer l.reader) (readable l.buffer l.reader)))
    ≡ place_of (readable l.buffer l.reader)
