use Rattle.std.proofs.Common.{◌≡◌, ◌++◌, take}
use Rattle.std.specs.Prelude.{flat_map}
use Rattle.ts_config.specs.Printing.{printed_intercept}
use Rattle.ts_config.proofs.print.print_intercepts.Given as goal

-- the lines that were passed are printed
abbrev pub invariant-loop-line : goal.invariant-loop-line
invariant-loop-line l = l.out.items ≡ l.initial.out.items ++ flat_map printed_intercept (take l.line-index l.lines)
