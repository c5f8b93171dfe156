-- The parts are those of the lines that were passed.
use Rattle.std.proofs.Common.{drop, true}
use Rattle.ts_passing.proofs.Parting.{Continues}
use Rattle.ts_request.proofs.making.fresh_parts.Given as goal

abbrev pub invariant-loop-line : goal.invariant-loop-line
invariant-loop-line g l = Continues g.P.Transform (λ line. true) l.lines
    (drop l.line-index l.lines) l.parts.items
