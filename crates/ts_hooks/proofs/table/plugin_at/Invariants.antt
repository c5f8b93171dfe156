use Rattle.std.proofs.Common.{ℕ, drop}
use Rattle.std.specs.Prelude.{Result}
use Rattle.ts_hooks.specs.Hooks.{plugins_at, Finds}
use Rattle.ts_hooks.proofs.table.plugin_at.Given as goal

-- what is found of the plugins that were not passed is what is to be found
abbrev pub invariant-loop-at : goal.invariant-loop-at
invariant-loop-at l = (answer : Result ℕ ℕ)
    → Finds (plugins_at l.hook (drop l.at-index l.plugins)) l.left answer
    → Finds (plugins_at l.hook l.plugins) l.place answer
