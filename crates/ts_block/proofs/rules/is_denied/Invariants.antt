-- None of the lines that were passed denies the host.
use Rattle.std.proofs.Common.{◌≡◌, drop}
use Rattle.ts_block.specs.Rules.{is_denied}
use Rattle.ts_block.proofs.rules.is_denied.Given as goal

abbrev pub invariant-loop-line : goal.invariant-loop-line
invariant-loop-line l = is_denied l.lines l.host ≡ is_denied (drop l.line-index l.lines) l.host
