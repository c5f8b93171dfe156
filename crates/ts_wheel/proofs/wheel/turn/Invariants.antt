use Rattle.std.proofs.Common.{length}
use Rattle.ts_wheel.proofs.Parted.{IsMoving}
use Rattle.ts_wheel.proofs.wheel.turn.Given as goal

abbrev pub invariant-rows : goal.invariant-rows
invariant-rows g l = IsMoving l.start l.lap l.later l.initial.later

abbrev pub decreases-rows : goal.decreases-rows
decreases-rows g l = length l.later
