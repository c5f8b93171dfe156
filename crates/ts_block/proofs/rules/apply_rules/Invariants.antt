-- The fields are those after the lines that were passed.
use Rattle.std.proofs.Common.{◌≡◌, take, fold}
use Rattle.ts_block.specs.Rules.{after_line}
use Rattle.ts_block.proofs.rules.apply_rules.Given as goal

abbrev pub invariant-loop-line : goal.invariant-loop-line
invariant-loop-line l = l.changed ≡ fold (after_line l.side) l.fn.fields (take l.line-index l.lines)
