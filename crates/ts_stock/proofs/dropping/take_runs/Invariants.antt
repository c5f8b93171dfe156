use Rattle.std.proofs.Common.{◌≡◌, ◌↔◌, ◌+◌, ◌≤◌, ℕ, take}
use Rattle.std.specs.Int.{bit_at}
use Rattle.ts_config.specs.Bodies.{without_byte}
use Rattle.ts_stock.specs.Dropping.{IsFreeOf}
use Rattle.ts_stock.proofs.dropping.take_runs.Given as goal

-- the bits that are left are those of the places that are not written yet
abbrev pub invariant-loop-left : goal.invariant-loop-left
invariant-loop-left l = record {
  order : l.written.done ≤ l.start + 64;
  within : l.written.filled ≤ l.written.done;
  bytes : take l.written.filled l.room ≡ without_byte l.byte (take l.written.done l.input);
  free : IsFreeOf l.byte l.input l.written.done l.start;
  left : (k : ℕ) → (bit_at l.left k ≡ 1) ↔ ((bit_at l.places k ≡ 1) × (l.written.done ≤ l.start + k));
}

abbrev pub decreases-loop-left : goal.decreases-loop-left
decreases-loop-left l = l.left
