-- So far no index can be used.
use Rattle.std.proofs.Common.{ℕ, ◌<◌}
use Rattle.ts_group.specs.Context.{CanUse}
use Rattle.ts_group.proofs.keys.free_key.Given as goal

abbrev pub invariant-loop-index : goal.invariant-loop-index
invariant-loop-index l = (i : ℕ) → i < l.index → CanUse l.journal.state i → ⊥
