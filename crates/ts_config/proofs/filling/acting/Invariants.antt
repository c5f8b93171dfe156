use Rattle.std.proofs.Common.{◌≡◌, ◌++◌, length}
use Rattle.std.specs.Prelude.{filter, not}
use Rattle.ts_config.specs.Setup.{is_session}
use Rattle.ts_config.proofs.filling.acting.Given as goal

-- the lines that were passed stand with those of their kind, in their order
abbrev pub invariant-loop-line : goal.invariant-loop-line
invariant-loop-line l = record {
  global : filter (λ x. not (is_session x)) l.fn.lines.items ≡ l.global.items
      ++ filter (λ x. not (is_session x)) l.lines.items;
  session : filter is_session l.fn.lines.items ≡ l.session.items ++ filter is_session l.lines.items;
}

abbrev pub decreases-loop-line : goal.decreases-loop-line
decreases-loop-line l = length l.lines.items
