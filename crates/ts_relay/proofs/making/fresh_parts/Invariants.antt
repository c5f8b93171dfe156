-- The parts are those of the lines that were passed.
use Rattle.std.proofs.Common.{drop}
use Rattle.ts_block.specs.Acting.{acts_on}
use Rattle.ts_passing.proofs.Parting.{Continues}
use Rattle.ts_relay.proofs.making.fresh_parts.Given as goal

abbrev pub invariant-loop-line : goal.invariant-loop-line
invariant-loop-line g l = Continues g.P.Transform (acts_on l.status l.fields) l.lines (drop l.line-index
    l.lines) l.parts.items
