-- One line more is printed.
use Rattle.std.proofs.Common.{sym}
use Rattle.ts_config.specs.Printing.{printed_intercept}
use Rattle.ts_config.proofs.Listed.{listed_more}
use Rattle.ts_config.proofs.print.print_intercepts.Goals as goal

pub loop-line-preserved : goal.loop-line-preserved
loop-line-preserved c =
    listed_more printed_intercept c.args.out.now.items c.loop-line.out.items c.print_intercept.new.out.items c.args.lines.now
    c.loop-line.line-index c.line-item.result c.loop-line-test.true (sym c.line-item.is) c.loop-line.invariant
    c.in_ok-print_intercept.ensures
